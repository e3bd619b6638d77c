use Rattle.std.proofs.Common.{◌≡◌, true, length, map}
use Rattle.std.specs.List.{list_all, slice_split}
use Rattle.mn_text.specs.Words.{words}
use Rattle.mn_failures.specs.Cutting.{is_comma, pieces}
use Rattle.mn_failures.specs.Language.{parts_say}
use Rattle.mn_failures.specs.Meaning.{part_fits}
use Rattle.mn_failures.proofs.Gathering.{before}
use Rattle.mn_failures.proofs.read.parts_of.Given as goal

abbrev pub invariant-pieces : goal.invariant-pieces
invariant-pieces l = record {
  same : before l.parts (parts_say l.topology (map words (slice_split is_comma l.rest))) ≡ parts_say l.topology (pieces l.text);
  fits : list_all (part_fits l.topology) l.parts ≡ true;
}

abbrev pub decreases-pieces : goal.decreases-pieces
decreases-pieces l = length l.rest
