-- Numbers with their units, one after another, and the texts of bytes.
use Rattle.std.proofs.Common.{◌≡◌, ℕ, ℤ, List, ◌++◌, codes, sym, ap, ap₂, ◌∙◌, subst, append_assoc}
use Rattle.arrow_types.specs.Field.{TypeShape}
use Rattle.arrow_layout.specs.PlainValue.{PlainValue, binary_value}
use Rattle.arrow_layout.specs.declared.intervals.Interval.{Interval}
use Rattle.arrow_layout.specs.declared.intervals.Interval.TheVariants.{DayTime, MonthDayNano}
use Rattle.arrow_csv.specs.Intervals.{bytes_text, counted, interval_text, months_text}
use Rattle.arrow_csv.specs.Texts.{Appends, IsPlain, IsText}
use Rattle.arrow_csv.proofs.Numerals.{both_plain}

-- exactly this text was appended, and it needs no quotes
abbrev pub AppendsJust : List ℕ → List ℕ → List ℕ → Type 0
AppendsJust text old new = Appends (IsPlain (λ t. t ≡ text)) old new

-- two such texts, one after the other
pub just_both : (front back old mid new : List ℕ) → AppendsJust front old mid → AppendsJust back mid new → AppendsJust (front ++ back) old new
just_both front back old mid new first second =
    let t = first.0 in
    let u = second.0 in
    (t ++ u, (ap₂ (λ x y. x ++ y) first.1.0 second.1.0, both_plain t u first.1.1 second.1.1), second.2 ∙ ap (λ m. m ++ u) first.2 ∙ append_assoc old t u)

-- the text of the bytes is a text of the value
pub binary_text : (null : List ℕ) (type from : TypeShape) (v : PlainValue) (bytes text : List ℕ) → v ≡ binary_value bytes → from ≡ type → text ≡ bytes_text from.tag bytes → IsText null type v text
binary_text null type from v bytes text holds same is =
    subst (λ w. IsText null type w text) (sym holds) (subst (λ (x : TypeShape). text ≡ bytes_text x.tag bytes) same is)

-- days and milliseconds at the end of a text
pub day_time_text : (interval : Interval) (days milliseconds x y : ℤ) (old mid new : List ℕ) → interval ≡ DayTime days milliseconds → x ≡ days → y ≡ milliseconds
    → AppendsJust (counted x (codes "d")) old mid → AppendsJust (counted y (codes "ms")) mid new → AppendsJust (interval_text interval) old new
day_time_text interval days milliseconds x y old mid new is first second front back =
    let whole = just_both (counted x (codes "d")) (counted y (codes "ms")) old mid new front back in
    let same : counted x (codes "d") ++ counted y (codes "ms") ≡ interval_text interval = ap₂ (λ a b. counted a (codes "d") ++ counted b (codes "ms")) first second ∙ ap interval_text (sym is) in
    subst (λ text. AppendsJust text old new) same whole

-- months, days and nanoseconds at the end of a text
pub month_day_nano_text : (interval : Interval) (months days nanoseconds x y z : ℤ) (old one two new : List ℕ) → interval ≡ MonthDayNano months days nanoseconds → x ≡ months → y ≡ days → z ≡ nanoseconds
    → AppendsJust (months_text x) old one → AppendsJust (counted y (codes "d")) one two → AppendsJust (counted z (codes "ns")) two new → AppendsJust (interval_text interval) old new
month_day_nano_text interval months days nanoseconds x y z old one two new is first second third front middle back =
    let part = just_both (months_text x) (counted y (codes "d")) old one two front middle in
    let whole = just_both (months_text x ++ counted y (codes "d")) (counted z (codes "ns")) old two new part back in
    let parts = ap₂ (λ a b. months_text a ++ counted b (codes "d")) first second in
    let same : months_text x ++ counted y (codes "d") ++ counted z (codes "ns") ≡ interval_text interval = ap₂ (λ front c. front ++ counted c (codes "ns")) parts third ∙ ap interval_text (sym is) in
    subst (λ text. AppendsJust text old new) same whole
