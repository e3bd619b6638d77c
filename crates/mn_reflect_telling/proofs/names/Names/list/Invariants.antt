use Rattle.std.proofs.Common.{◌≡◌, ◌++◌, map}
use Rattle.mn_reflect_telling.specs.Names.{key_in}
use Rattle.mn_reflect_telling.proofs.names.Names.list.Given as goal

-- the names to come end it
abbrev pub invariant-loop-name : goal.invariant-loop-name
invariant-loop-name l = map key_in l.names.items ++ map key_in l.name-iterator ≡ l.self
