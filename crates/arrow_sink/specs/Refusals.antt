-- The numbers and the texts of a writer's errors.
use Rattle.std.specs.Prelude.{ℕ, List, codes}
use Rattle.arrow_sink.specs.declared.write_fault.WriteFault.{WriteFault}
use Rattle.arrow_sink.specs.declared.write_fault.WriteFault.TheVariants.{SchemaDiffers, TooLarge, DictionariesDiffer, Sink, Broken, Finished, Memory}

-- the number of an error
abbrev pub number_of : WriteFault → ℕ
number_of SchemaDiffers = 1
number_of TooLarge = 2
number_of DictionariesDiffer = 3
number_of Sink = 4
number_of Broken = 5
number_of Finished = 6
number_of Memory = 7

-- the text of an error
abbrev pub words_of : WriteFault → List ℕ
words_of SchemaDiffers = codes "another schema"
words_of TooLarge = codes "past a limit"
words_of DictionariesDiffer = codes "two dictionaries of one id"
words_of Sink = codes "the sink failed"
words_of Broken = codes "the sink failed before"
words_of Finished = codes "the stream is finished"
words_of Memory = codes "out of memory"
