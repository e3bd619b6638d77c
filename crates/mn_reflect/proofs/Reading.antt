-- What is read of the letters that fly.
use Rattle.std.proofs.Common.{ℕ, suc, ◌≡◌, List, [], ◌∷◌, refl, ◌∙◌, ap}
use Rattle.std.specs.Prelude.{length}
use Rattle.mn_topo.specs.Network.{Network}
use Rattle.mn_bgp_spelling_laws.specs.Spelling.{Labels}
use Rattle.mn_mail.specs.Mail.{Letter}
use Rattle.mn_reflect_ledger_laws.specs.Picks.{Spoken}
use Rattle.mn_reflect_world_laws.specs.Spelling.{letters_in}

module _ (topology : Network) (reflectors : List ℕ) (labels : Labels) where
  one_each : (flying : List Spoken) → length (letters_in topology reflectors labels flying) ≡ length flying
  one_each [] = refl
  one_each (spoken ∷ more) = ap suc (one_each more)

  pub as_many : (flying : List Spoken) (letters : List Letter) → letters ≡ letters_in topology reflectors labels flying → length letters ≡ length flying
  as_many flying letters h = ap length h ∙ one_each flying
