-- A shelf in memory at which no call is to fail: what it refuses changes no file.
use Rattle.std.proofs.Common.{◌≡◌, Bool, true, false, List, ℕ, ◌||◌, Option, Some, None, Err, refl, ap, sym, ◌∙◌}
use Rattle.std.specs.Prelude.{is_none}
use Rattle.std.proofs.lemmas.Bool.{false≢true as no}
use Rattle.mn_edge.specs.declared.device.DeviceBad.{DeviceBad}
use Rattle.mn_edge.specs.declared.device.DeviceBad.TheVariants.{Failed, NoMemory}
use Rattle.mn_edge.specs.Files.{Files, file}
use Rattle.mn_edge.specs.Memory.{FailsBy, extended, kept, lacks}
use Rattle.mn_edge.proofs.Entries.{extended-missing, extended-nil}

none_is : (o : Option (List ℕ)) → is_none o ≡ true → o ≡ None
none_is None h = refl
none_is (Some bytes) h = absurd (no h)

pub same_after : (m new : Files) (name piece : List ℕ) (due : Bool) (bad : DeviceBad) → due ≡ false → FailsBy {T = Unit {0}} (due || lacks m name) (Err bad) →
    new ≡ extended m name (kept {T = Unit {0}} piece (Err bad)) → new ≡ m
same_after m new name piece due Failed off fails is =
    is ∙ extended-missing m name (kept {T = Unit {0}} piece (Err Failed)) (none_is (file m name) (sym (ap (λ b. b || lacks m name) off) ∙ fails))
same_after m new name piece due NoMemory off fails is = is ∙ extended-nil m name
