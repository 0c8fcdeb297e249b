-- The values with nothing in them: "In memory, slots past a count are all zero."
use Rattle.std.specs.Prelude.{replicate, pos}
use Rattle.rule.specs.declared.Test.{Test}
use Rattle.rule.specs.declared.Assign.{Assign}
use Rattle.rule.specs.declared.Rule.{Rule}

abbrev pub no_test : Test
no_test = record { left = 0; comparison = 0; kind = 0; right = 0; constant = pos 0 }

abbrev pub no_assign : Assign
no_assign = record { target = 0; operation = 0; a = 0; b = 0; k = pos 0; p = 0; q = 0 }

abbrev pub no_rule : Rule
no_rule =
    record { watch = 0; precedes = 0; t = 0; a = 0; m = 0; zero = 0; tests = replicate 8 no_test; assigns = replicate 8 no_assign; name = replicate 16 0 }
