use Rattle.std.proofs.Common.{◌≡◌, ◌≤◌, ◌+◌, length}
use Rattle.std.specs.Str.Lines.{lines}
use Rattle.mn_reflect_run.specs.Language.{read_from, script_of}
use Rattle.mn_reflect_run.specs.Reading.{IsLawfulScript}
use Rattle.mn_reflect_run.proofs.script.read_script.Given as goal

-- what is left leads to the same script
abbrev pub invariant-lines : goal.invariant-lines
invariant-lines l = record {
  same : read_from l.topology l.number l.script (lines l.rest) ≡ script_of l.topology l.bytes;
  lawful : IsLawfulScript l.topology l.script;
  few : length l.script.lines + length (lines l.rest) ≤ length (lines l.bytes);
}

abbrev pub decreases-lines : goal.decreases-lines
decreases-lines l = length l.rest
