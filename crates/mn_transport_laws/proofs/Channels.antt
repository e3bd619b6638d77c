-- What is on a channel once others, or a link's, were emptied.
use Rattle.std.proofs.Common.{ℕ, ◌≡◌, ◌≢◌, ◌+◌, ◌*◌, Bool, true, false, cond, not, List, [], ◌∷◌, map, refl, arith, sym, ◌∙◌, ap}
use Rattle.std.specs.Prelude.{◌==◌}
use Rattle.mn_base.proofs.Bools.{same_numbers, other_test}
use Rattle.mn_wiring.specs.declared.links.Dir.{Dir}
use Rattle.mn_wiring.specs.declared.links.Dir.TheVariants.{Forth, Back}
use Rattle.mn_flight.specs.declared.Item.{Item}
use Rattle.mn_flight.specs.Flying.{on_channel, off_channel}
use Rattle.mn_ledger.specs.Packets.{channel}
use Rattle.mn_transport_laws.specs.Sending.{off_link}
use Rattle.mn_transport_laws.proofs.Spelled.{bytes_on}

module _ {T : Type 0} where
  pub off-same : (c : ℕ) (xs : List (Item T)) → on_channel c (off_channel c xs) ≡ []
  off-same c [] = refl
  off-same c (x ∷ xs) = by (x.channel == c) refl (off-same c xs)
    where
      by : (b : Bool) → (x.channel == c) ≡ b → on_channel c (off_channel c xs) ≡ [] → on_channel c (cond (not b) (x ∷ off_channel c xs) (off_channel c xs)) ≡ []
      by true e h = h
      by false e h = ap (λ b. cond b (x ∷ on_channel c (off_channel c xs)) (on_channel c (off_channel c xs))) e ∙ h

  pub off-other : (c d : ℕ) (xs : List (Item T)) → c ≢ d → on_channel c (off_channel d xs) ≡ on_channel c xs
  off-other c d [] apart = refl
  off-other c d (x ∷ xs) apart = by (x.channel == d) refl (off-other c d xs apart)
    where
      elsewhere : (x.channel == d) ≡ true → (x.channel == c) ≡ false
      elsewhere e = other_test x.channel c (λ q. apart (sym q ∙ same_numbers x.channel d e))

      by : (b : Bool) → (x.channel == d) ≡ b → on_channel c (off_channel d xs) ≡ on_channel c xs
          → on_channel c (cond (not b) (x ∷ off_channel d xs) (off_channel d xs)) ≡ cond (x.channel == c) (x ∷ on_channel c xs) (on_channel c xs)
      by true e h = h ∙ sym (ap (λ b. cond b (x ∷ on_channel c xs) (on_channel c xs)) (elsewhere e))
      by false e h = ap (λ ys. cond (x.channel == c) (x ∷ ys) ys) h

-- nothing flies on a link that was cut
pub cut-here : (l : ℕ) (dir : Dir) (items : List (Item (List ℕ))) → bytes_on (channel l dir) (off_link l items) ≡ []
cut-here l Forth items =
    ap (map (λ (item : Item (List ℕ)). item.item)) (off-other (2 * l) (2 * l + 1) (off_channel (2 * l) items) (λ e. absurd (omega (arith, e)))
    ∙ off-same (2 * l) items)
cut-here l Back items = ap (map (λ (item : Item (List ℕ)). item.item)) (off-same (2 * l + 1) (off_channel (2 * l) items))

apart-even : (k l : ℕ) (dir : Dir) → k ≢ l → channel k dir ≢ 2 * l
apart-even k l Forth d e = d (omega (arith, e))
apart-even k l Back d e = d (omega (arith, e))

apart-odd : (k l : ℕ) (dir : Dir) → k ≢ l → channel k dir ≢ 2 * l + 1
apart-odd k l Forth d e = d (omega (arith, e))
apart-odd k l Back d e = d (omega (arith, e))

-- and what flies on another link stays
pub cut-off : (k l : ℕ) (dir : Dir) (items : List (Item (List ℕ))) → k ≢ l → bytes_on (channel k dir) (off_link l items) ≡ bytes_on (channel k dir) items
cut-off k l dir items d =
    ap (map (λ (item : Item (List ℕ)). item.item))
    (off-other (channel k dir) (2 * l + 1) (off_channel (2 * l) items) (apart-odd k l dir d) ∙ off-other (channel k dir) (2 * l) items (apart-even k l dir d))
