-- One item after another is put into flight.
use Rattle.std.proofs.Common.{ℕ, zero, suc, ◌≡◌, ◌+◌, ◌*◌, ◌-◌, ◌<◌, inl, inr, List, [], ◌∷◌, ◌++◌, length, refl, arith, sym, ◌∙◌, ap, subst, append_assoc}
use Rattle.std.proofs.Common.{get_or}
use Rattle.std.specs.List.{All, range_with_len}
use Rattle.std.proofs.lemmas.Bool.Decides.{leb_tells}
use Rattle.std.proofs.lemmas.List.Elements.{All-push}
use Rattle.mn_wiring.specs.Wiring.{Wiring, link}
use Rattle.mn_flight.specs.declared.Item.{Item}
use Rattle.mn_ldp_session.specs.Spelling.{Pdu}
use Rattle.mn_transport_laws.specs.declared.notice.Notice.{Notice}
use Rattle.mn_timetable_laws.specs.Keys.{channel_from}
use Rattle.mn_transport_laws.specs.Sending.{notices_to, put_pdus}

-- a place in a table of so many rows and columns
pub grid : (l rows n columns : ℕ) → l < rows → n < columns → l * columns + n < rows * columns
grid l zero n columns h g = absurd (let no : l < 0 → ⊥ = (λ p. omega (arith, p)) in no h)
grid l (suc rows) n columns h g = elim (leb_tells rows l) [
  | inl p ↦ (let same : l ≡ rows = omega (arith, h, p.1) in
      subst (λ k. k * columns + n < suc rows * columns) (sym same) (omega (arith, g)))
  | inr p ↦ (let before = grid l rows n columns p.1 g in omega (arith, before))
]

one_less : (node nodes : ℕ) → node < nodes → nodes - node ≡ suc (nodes - (node + 1))
one_less node nodes h = omega (arith, h)

module _ {T : Type 0} where
  pub below-next : (n next : ℕ) (items new : List (Item T)) (x : Item T) → next ≡ n + 1 → new ≡ items ++ x ∷ [] → x.number ≡ n →
      All (λ item. item.number < n) items → All (λ item. item.number < next) new
  below-next n next items new x e put is below =
      subst (λ k. All (λ (item : Item T). item.number < k) new) (sym e)
      (subst (All (λ (item : Item T). item.number < n + 1)) (sym put)
      (All-push (λ (item : Item T). item.number < n + 1) items x (λ k d p. let low : (get_or items k d).number < n = below k d p in
      omega (arith, low)) (omega (arith, is))))

  seam : (items new rest all : List (Item T)) (x : Item T) → new ≡ items ++ x ∷ [] → items ++ x ∷ rest ≡ all → new ++ rest ≡ all
  seam items new rest all x put is = ap (λ xs. xs ++ rest) put ∙ append_assoc items (x ∷ []) rest ∙ is

pub told-next : (items new all : List (Item Notice)) (first due number next node nodes : ℕ) → node < nodes → next ≡ number + 1
    → new ≡ items ++ record { channel = first + node; due = due; number = number; item = record {} } ∷ []
    → items ++ notices_to first due number (range_with_len node (nodes - node)) ≡ all
    → new ++ notices_to first due next (range_with_len (node + 1) (nodes - (node + 1))) ≡ all
told-next items new all first due number next node nodes h e put is =
    ap (λ k. new ++ notices_to first due k (range_with_len (node + 1) (nodes - (node + 1)))) e
    ∙ seam items new (notices_to first due (number + 1) (range_with_len (node + 1) (nodes - (node + 1)))) all (record {
      channel = first + node;
      due =
          due;
      number = number;
      item = record {};
    }) put
    (sym (ap (λ k. items ++ notices_to first due number (range_with_len node k)) (one_less node nodes h)) ∙ is)

pub sent-next : (w : Wiring) (me tick number next : ℕ) (items new all : List (Item (List ℕ))) (pdu : Pdu) (pdus : List Pdu) → next ≡ number + 1
    → new ≡ items ++ record { channel = channel_from w pdu.link me; due = tick + (link w pdu.link).delay; number = number; item = pdu.bytes } ∷ []
    → items ++ put_pdus w me tick number (pdu ∷ pdus) ≡ all
    → new ++ put_pdus w me tick next pdus ≡ all
sent-next w me tick number next items new all pdu pdus e put is =
    ap (λ k. new ++ put_pdus w me tick k pdus) e
    ∙ seam items new (put_pdus w me tick (number + 1) pdus) all (record {
      channel = channel_from w pdu.link me;
      due =
          tick + (link w pdu.link).delay;
      number = number;
      item = pdu.bytes;
    }) put is

pub nothing_left : {X : Type 0} (l : List X) → length l ≡ 0 → l ≡ []
nothing_left [] h = refl
nothing_left (x ∷ xs) h = absurd (let no : suc (length xs) ≡ 0 → ⊥ = (λ p. omega (arith, p)) in no h)
