-- Two directions of links.
use Rattle.std.proofs.Common.{ℕ, ◌≡◌, refl, arith}
use Rattle.mn_topo.specs.Dir.{Dir}
use Rattle.mn_topo.specs.Dir.TheVariants.{Forth, Back}
use Rattle.mn_ledger.specs.Packets.{channel}

-- two directions of one number are one direction of one link
pub one_channel : (l k : ℕ) (d e : Dir) → channel l d ≡ channel k e → (l ≡ k) × (d ≡ e)
one_channel l k Forth Forth h = (omega (arith, h), refl)
one_channel l k Back Back h = (omega (arith, h), refl)
one_channel l k Forth Back h = absurd (omega (arith, h))
one_channel l k Back Forth h = absurd (omega (arith, h))
