-- Whether a writer takes more.
use Rattle.std.specs.Prelude.{Result, Ok, Err}
use Rattle.arrow_sink.specs.declared.status.Status.{Status}
use Rattle.arrow_sink.specs.declared.status.Status.TheVariants as statuses
use Rattle.arrow_sink.specs.declared.write_fault.WriteFault.{WriteFault}
use Rattle.arrow_sink.specs.declared.write_fault.WriteFault.TheVariants.{Broken, Finished}

-- whether a writer with this status takes more, or why not
abbrev pub taking : Status → Result (Unit {0}) WriteFault
taking statuses.Writing = Ok tt
taking statuses.Finished = Err Finished
taking statuses.Broken = Err Broken
