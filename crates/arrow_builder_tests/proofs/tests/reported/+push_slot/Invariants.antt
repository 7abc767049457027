use Rattle.arrow_builder_tests.proofs.tests.reported.+push_slot.Given as goal

-- each value below is one level less deep
abbrev pub decreases-push_slot : goal.decreases-push_slot
decreases-push_slot g l = l.levels
