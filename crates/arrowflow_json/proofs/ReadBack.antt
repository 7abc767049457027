-- The JSON of columns and of messages has JSON numbers, and nests no deeper than the reader allows: so its text reads
-- back.
use Rattle.std.proofs.Common.{◌≡◌, ◌<◌, ◌≤◌, ◌+◌, ◌*◌, ◌^◌, ℕ, ℤ, pos, negsuc, Bool, true, false, List, [], ◌∷◌, ◌++◌, codes, map, Option, None, Some, refl, arith}
use Rattle.std.specs.Prelude.{FitsSigned}
use Rattle.std.specs.Fmt.{signed_decimal}
use Rattle.std.specs.Int.{w64}
use Rattle.std.specs.Str.{is_utf8}
use Rattle.json.specs.Json.{Json, object}
use Rattle.json.specs.Print.{IsNumber}
use Rattle.json.specs.Tree.{HasNumbers, ItemsHaveNumbers, MembersHaveNumbers, depth, items_depth, members_depth}
use Rattle.json.specs.Value.{items_of}
use Rattle.json.proofs.Printed.Decimals.{IsNumber-decimal, IsNumber-signed_decimal}
use Rattle.json.proofs.Printed.Trees.{document-print}
use Rattle.arrow_types.specs.Field.{FieldHeader, FieldTree, none, more, levels}
use Rattle.arrow_types.specs.Notes.{KeyValue, Notes, unnoted, noted}
use Rattle.arrow_types.specs.declared.field.Encoding.{Encoding}
use Rattle.arrow_json.specs.Values.{members_of}
use Rattle.arrow_stream_reader.specs.State.{StreamState, Given, schema_given, dictionary_given, batch_given, ended}
use Rattle.arrowflow_json.specs.Fields.{dictionary_json, field_json, field_members, fields_json, in_file, pair_json, text_json}
use Rattle.arrowflow_json.specs.Laws.{ColumnsReadBack, EndReadsBack, FaultReadsBack, HasNumbersOf, HaveIds, IsId, MessageReadsBack, ReadsBack}
use Rattle.arrowflow_json.specs.Messages.{message_members, place_json, whole}

-- its numbers are JSON numbers, and it nests at most this deep
abbrev Reads : ℕ → Json → Type 0
Reads n json = HasNumbers json × (depth json ≤ n)

-- so its text reads back
read : (json : Json) → Reads 127 json → ReadsBack json
read json reads = document-print json reads.0 (omega (arith, reads.1))

-- a signed 64-bit number
id_number : (z : ℤ) → FitsSigned w64 z → IsNumber (signed_decimal z)
id_number (pos n) fits = IsNumber-signed_decimal (pos n) fits.sfits
id_number (negsuc n) fits = IsNumber-signed_decimal (negsuc n) fits.sfits

-- the members of an object, whose file may have a name
abbrev MembersRead : ℕ → List (List ℕ × Json) → Type 0
MembersRead n ms = MembersHaveNumbers (members_of ms) × (members_depth (members_of ms) ≤ n)

in_file_reads : (file : Option (List ℕ)) (n : ℕ) (ms : List (List ℕ × Json)) → MembersRead n ms → Reads (n + 1) (object (members_of (in_file file ++ ms)))
in_file_reads None n ms h = (h.0, omega (arith, h.1))
in_file_reads (Some name) n ms h = ((tt, h.0), omega (arith, h.1))

-- ---- columns

text_reads : (bytes : List ℕ) → Reads 1 (text_json bytes)
text_reads bytes = by (is_utf8 bytes) refl
  where
    by : (b : Bool) → is_utf8 bytes ≡ b → Reads 1 (text_json bytes)
    by true e = rw e (tt, omega arith)
    by false e = rw e ((tt, tt), omega arith)

pairs_read : (pairs : List KeyValue) → ItemsHaveNumbers (items_of (map pair_json pairs)) × (items_depth (items_of (map pair_json pairs)) ≤ 2)
pairs_read [] = (tt, omega arith)
pairs_read (p ∷ ps) =
    let own = text_reads p.key in
    let value = text_reads p.value in
    let others = pairs_read ps in
    (((own.0, (value.0, tt)), others.0), omega (arith, own.1, value.1, others.1))

dictionary_reads : (encoding : Option Encoding) → IsId encoding → Reads 1 (dictionary_json encoding)
dictionary_reads None h = (tt, omega arith)
dictionary_reads (Some e) h = ((id_number e.id h, (tt, (tt, tt))), omega arith)

-- the children of a field
abbrev ChildrenRead : FieldTree → Notes → Type 0
ChildrenRead fields notes = ItemsHaveNumbers (items_of (fields_json None fields notes)) × (items_depth (items_of (fields_json None fields notes)) ≤ 2 * levels fields + 2)

field_reads : (file : Option (List ℕ)) (head : FieldHeader) (pairs : List KeyValue) (children : FieldTree) (below : Notes) → IsId head.encoding → ChildrenRead children below → Reads (2 * levels children + 4) (field_json file head pairs (fields_json None children below))
field_reads file head pairs children below id inner =
    let dictionary = dictionary_reads head.encoding id in
    let metadata = pairs_read pairs in
    let own : MembersRead (2 * levels children + 3) (field_members head pairs (fields_json None children below)) =
    ((tt, (tt, (tt, (tt, (dictionary.0, (metadata.0, (inner.0, tt))))))), omega (arith, dictionary.1, metadata.1, inner.1)) in
    let reads = in_file_reads file (2 * levels children + 3) (field_members head pairs (fields_json None children below)) own in
    (reads.0, omega (arith, reads.1))

children_read : (fields : FieldTree) (notes : Notes) → HaveIds fields → ChildrenRead fields notes
children_read none notes ids = (tt, omega arith)
children_read (more head children rest) unnoted ids =
    let own = field_reads None head [] children unnoted ids.0 (children_read children unnoted ids.1) in
    let others = children_read rest unnoted ids.2 in
    ((own.0, others.0), omega (arith, own.1, others.1))
children_read (more head children rest) (noted pairs below after) ids =
    let own = field_reads None head pairs children below ids.0 (children_read children below ids.1) in
    let others = children_read rest after ids.2 in
    ((own.0, others.0), omega (arith, own.1, others.1))

pub columns_read_back : ColumnsReadBack
columns_read_back file none notes shallow ids = tt
columns_read_back file (more head children rest) unnoted shallow ids =
    let own = field_reads file head [] children unnoted ids.0 (children_read children unnoted ids.1) in
    (read (field_json file head [] (fields_json None children unnoted)) (own.0, omega (arith, own.1, shallow)), columns_read_back file rest unnoted (omega (arith, shallow)) ids.2)
columns_read_back file (more head children rest) (noted pairs below after) shallow ids =
    let own = field_reads file head pairs children below ids.0 (children_read children below ids.1) in
    (read (field_json file head pairs (fields_json None children below)) (own.0, omega (arith, own.1, shallow)), columns_read_back file rest after (omega (arith, shallow)) ids.2)

-- ---- messages

place_reads : (file : Option (List ℕ)) (place : ℕ) (ms : List (List ℕ × Json)) → place < 2 ^ 64 → MembersRead 0 ms → ReadsBack (place_json file place ms)
place_reads file place ms small h =
    let all : MembersRead 0 ((codes "at", whole place) ∷ ms) = ((IsNumber-decimal place small, h.0), omega (arith, h.1)) in
    let reads = in_file_reads file 0 ((codes "at", whole place) ∷ ms) all in
    read (place_json file place ms) (reads.0, omega (arith, reads.1))

members_read : (before : ℕ) (state : StreamState) (given : Given) → HasNumbersOf before state given → MembersRead 0 (message_members before state given)
members_read before state schema_given h = ((tt, (IsNumber-decimal _ h, tt)), omega arith)
members_read before state (dictionary_given id) h = ((tt, (id_number id h.0, (IsNumber-decimal _ h.1, tt))), omega arith)
members_read before state (batch_given batch) h = ((tt, (IsNumber-decimal _ h.0, (IsNumber-decimal _ h.1, tt))), omega arith)
members_read before state ended h = ((tt, tt), omega arith)

pub message_reads_back : MessageReadsBack
message_reads_back file place before state given small h = place_reads file place (message_members before state given) small (members_read before state given h)

pub end_reads_back : EndReadsBack
end_reads_back file place small = place_reads file place _ small ((tt, tt), omega arith)

pub fault_reads_back : FaultReadsBack
fault_reads_back file fault small = place_reads file fault.place _ small ((tt, tt), omega arith)
