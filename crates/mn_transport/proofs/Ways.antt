-- Where a node can send, by the way out that it tells.
use Rattle.std.proofs.Common.{ℕ, ◌≡◌, ◌+◌, ◌<◌, ◌≢◌, inl, inr, Bool, false, List, length, refl, arith, sym, ◌∙◌, ap, Option, None, Some}
use Rattle.std.specs.Prelude.{◌==◌, ◌||◌, is_some, slice_index_or, slice_set}
use Rattle.std.proofs.lemmas.Bool.Decides.{eqb_tells}
use Rattle.std.proofs.lemmas.List.{get_or-set_same, get_or-set_other}
use Rattle.mn_base.specs.declared.numbers.NodeNo.{NodeNo}
use Rattle.mn_topo.specs.Network.{Network, wiring_of}
use Rattle.mn_ledger.specs.World.{World}
use Rattle.mn_ledger.specs.Transport.{known, offers, usable}
use Rattle.mn_frame_laws.specs.Given.{Labelling}
use Rattle.mn_frame_laws.specs.Entries.{outer_over, outer_for}

is_out : (g : Labelling) (edge : ℕ) (o : Option (ℕ × ℕ)) → is_some (outer_over g edge o) ≡ is_some o
is_out g edge None = refl
is_out g edge (Some hop) = refl

-- it offers the FEC of a node where that is itself or there is a way out to it
pub offers_so : (t : Network) (g : Labelling) (w : World) (node to : ℕ) (way : Option (NodeNo × Option ℕ)) → way ≡ outer_for t g w node to →
    (node == to || is_some way) ≡ offers (wiring_of t) (known t w node) node to
offers_so t g w node to way e =
    ap (λ o. node == to || is_some o) e ∙ ap (λ b. node == to || b) (is_out g to (usable t w.config w.views w.sessions node to))

-- one place more of a list is as the function says
pub one_more : (f : ℕ → Bool) (xs : List Bool) (at : ℕ) (b : Bool) → at < length xs →
    ((to : ℕ) → to < at → slice_index_or xs to false ≡ f to) → b ≡ f at →
    (to : ℕ) → to < at + 1 → slice_index_or (slice_set xs at b) to false ≡ f to
one_more f xs at b there each is to below = elim (eqb_tells to at) [
  | inl e ↦ ap (λ k. slice_index_or (slice_set xs at b) k false) e.1 ∙ get_or-set_same xs at b false there ∙ is ∙ ap f (sym e.1)
  | inr e ↦ get_or-set_other xs at to b false e.1 ∙ each to (less to at below e.1)
]
  where
    less : (m n : ℕ) → m < n + 1 → m ≢ n → m < n
    less m n h d = omega (arith, h, d)
