-- What a node keeps tells as much as the ledger says that it knows.
use Rattle.std.proofs.Common.{ℕ, zero, suc, ◌≡◌, ◌<◌, ◌≤◌, inl, inr, Bool, true, false, List, [], length, map, refl, arith, sym, ◌∙◌, ap, Some, None}
use Rattle.std.specs.Prelude.{◌==◌, ◌&&◌, ◌%◌, nat_le, is_some, slice_index_or, if◌then◌else◌}
use Rattle.std.proofs.lemmas.Bool.Decides.{leb_tells}
use Rattle.std.proofs.lemmas.List.{get_or_past}
use Rattle.std.proofs.lemmas.List.FromFn.{length-map-range_with_len, get_or-map-range_with_len}
use Rattle.mn_base.proofs.Bools.{clash}
use Rattle.mn_wiring.specs.Wiring.{nodes_of, links_of, is_end, across}
use Rattle.mn_topo.specs.Network.{Network, wiring_of}
use Rattle.mn_ledger.specs.World.{Config, Views, Sessions}
use Rattle.mn_ledger.specs.Transport.{lives, is_active, ldp_state_of, heard_by, hearing_at, knowledge_of}
use Rattle.mn_node.specs.Ldp.{Message, Hearing, state_by, hearing, is_operational, is_mapped, news}
use Rattle.mn_node.specs.Node.{count_by, mappings_from, hearing_in, knowledge_in, label_of}
use Rattle.mn_slice_laws.specs.Slice.{label_heard, session_of, node_of}
use Rattle.mn_node.proofs.Lists.{map-both}
use Rattle.mn_node.proofs.Mapped.{mapped-is}
use Rattle.mn_node.proofs.Told.{SaysAlike, news-alike}

-- 1. One link of each

nothing : Hearing
nothing = record { alive = false; count = 0; messages = [] }

pub hearing-is : (t : Network) (c : Config) (v : Views) (s : Sessions) (m l : ℕ) → l < length t.links →
    hearing (knowledge_of (wiring_of t) c v s m) l ≡ hearing_at (wiring_of t) c s m l
unfolding knowledge_of
hearing-is t c v s m l h =
    get_or-map-range_with_len (hearing_at (wiring_of t) c s m) 0 (length t.links) l l (record { alive = false; count = 0; messages = [] }) h (omega arith)

hearing_past : (t : Network) (c : Config) (v : Views) (s : Sessions) (m l : ℕ) → length t.links ≤ l →
    hearing (knowledge_of (wiring_of t) c v s m) l ≡ record { alive = false; count = 0; messages = [] }
unfolding knowledge_of
hearing_past t c v s m l h =
    get_or_past (map (hearing_at (wiring_of t) c s m) (links_of (wiring_of t))) l (record { alive = false; count = 0; messages = [] })
    (omega (arith, h, length-map-range_with_len (hearing_at (wiring_of t) c s m) 0 (length t.links)))

kept-is : (t : Network) (c : Config) (v : Views) (s : Sessions) (m l : ℕ) → l < length t.links →
    hearing (knowledge_in (node_of t c v s m)) l ≡ hearing_in (session_of t c s m l)
kept-is t c v s m l h =
    ap (λ xs. slice_index_or xs l (record { alive = false; count = 0; messages = [] })) (map-both hearing_in (session_of t c s m) (links_of (wiring_of t)))
    ∙ get_or-map-range_with_len (λ k. hearing_in (session_of t c s m k)) 0 (length t.links) l l (record { alive = false; count = 0; messages = [] }) h
    (omega arith)

kept_past : (t : Network) (c : Config) (v : Views) (s : Sessions) (m l : ℕ) → length t.links ≤ l →
    hearing (knowledge_in (node_of t c v s m)) l ≡ record { alive = false; count = 0; messages = [] }
kept_past t c v s m l h =
    ap (λ xs. slice_index_or xs l (record { alive = false; count = 0; messages = [] })) (map-both hearing_in (session_of t c s m) (links_of (wiring_of t)))
    ∙ get_or_past (map (λ k. hearing_in (session_of t c s m k)) (links_of (wiring_of t))) l (record { alive = false; count = 0; messages = [] })
    (omega (arith, h, length-map-range_with_len (λ k. hearing_in (session_of t c s m k)) 0 (length t.links)))

-- 2. The state tells whether two messages were received

two_heard : (active : Bool) (n : ℕ) → nat_le 2 (count_by (state_by active n)) ≡ nat_le 2 n
two_heard true zero = refl
two_heard false zero = refl
two_heard active (suc zero) = refl
two_heard active (suc (suc n)) = sym (elim (leb_tells 2 (suc (suc n))) [ inl p ↦ p.0 | inr p ↦ absurd (less n p.1) ])
  where
    less : (n : ℕ) → suc (suc n) < 2 → ⊥
    less n h = omega (arith, h)

-- 3. The labels tell what is mapped

label_some : (far fec : ℕ) (b : Bool) → is_some (if b then Some (label_of far fec) else None) ≡ b
label_some far fec true = refl
label_some far fec false = refl

labels_tell : (t : Network) (far fec : ℕ) (messages : List Message) → fec < length t.loopbacks
    → is_mapped false fec (mappings_from 0 (map (label_heard far messages) (nodes_of (wiring_of t)))) ≡ is_mapped false fec messages
labels_tell t far fec messages below =
    mapped-is 0 fec fec (map (label_heard far messages) (nodes_of (wiring_of t))) (omega arith)
    ∙ ap is_some (get_or-map-range_with_len (label_heard far messages) 0 (length t.loopbacks) fec fec None below (omega arith))
    ∙ label_some far fec (is_mapped false fec messages)

-- 4. Together

module _ (t : Network) (c : Config) (v : Views) (s : Sessions) (m : ℕ) where
  -- the node has a session on a link of its own that lives
  session-lives : (l : ℕ) → (lives c l && is_end (wiring_of t) l m) ≡ true → session_of t c s m l ≡ Some (record {
    state = ldp_state_of t s l m;
    said = length (s.said l m);
    labels = map (label_heard (across (wiring_of t) l m) (heard_by (wiring_of t) s l m)) (nodes_of (wiring_of t));
  })
  session-lives l e = rw e

  operational-at : (l : ℕ) (b : Bool) → (lives c l && is_end (wiring_of t) l m) ≡ b → l < length t.links
      → is_operational (knowledge_of (wiring_of t) c v s m) l ≡ is_operational (knowledge_in (node_of t c v s m)) l
  operational-at l false e h =
      ap (λ x. x.alive && nat_le 2 x.count) (hearing-is t c v s m l h)
      ∙ ap (λ b. b && nat_le 2 (s.heard l m)) e
      ∙ sym (ap (λ x. x.alive && nat_le 2 x.count) (kept-is t c v s m l h ∙ ap hearing_in at_false))
    where
      at_false : session_of t c s m l ≡ None
      at_false = rw e
  operational-at l true e h =
      ap (λ x. x.alive && nat_le 2 x.count) (hearing-is t c v s m l h)
      ∙ ap (λ b. b && nat_le 2 (s.heard l m)) e
      ∙ sym (two_heard (is_active t l m) (s.heard l m))
      ∙ sym (ap (λ x. x.alive && nat_le 2 x.count) (kept-is t c v s m l h ∙ ap hearing_in (session-lives l e)))

  operational-past : (l : ℕ) → length t.links ≤ l → is_operational (knowledge_of (wiring_of t) c v s m) l ≡ is_operational (knowledge_in (node_of t c v s m)) l
  operational-past l h =
      ap (λ x. x.alive && nat_le 2 x.count) (hearing_past t c v s m l h) ∙ sym (ap (λ x. x.alive && nat_le 2 x.count) (kept_past t c v s m l h))

  operational-is : (l : ℕ) → is_operational (knowledge_of (wiring_of t) c v s m) l ≡ is_operational (knowledge_in (node_of t c v s m)) l
  operational-is l =
      elim (leb_tells (length t.links) l) [ inl p ↦ operational-past l p.1 | inr p ↦ operational-at l (lives c l && is_end (wiring_of t) l m) refl p.1 ]

  mapped-at : (l fec : ℕ) (b : Bool) → (lives c l && is_end (wiring_of t) l m) ≡ b → l < length t.links → fec < length t.loopbacks
      → is_operational (knowledge_of (wiring_of t) c v s m) l ≡ true
      → is_mapped false fec (hearing (knowledge_of (wiring_of t) c v s m) l).messages ≡ is_mapped false fec
      (hearing (knowledge_in (node_of t c v s m)) l).messages
  mapped-at l fec false e h below on =
      absurd (clash (sym on ∙ ap (λ x. x.alive && nat_le 2 x.count) (hearing-is t c v s m l h) ∙ ap (λ b. b && nat_le 2 (s.heard l m)) e))
  mapped-at l fec true e h below on =
      ap (λ x. is_mapped false fec x.messages) (hearing-is t c v s m l h)
      ∙ sym (labels_tell t (across (wiring_of t) l m) fec (heard_by (wiring_of t) s l m) below)
      ∙ sym (ap (λ x. is_mapped false fec x.messages) (kept-is t c v s m l h ∙ ap hearing_in (session-lives l e)))

  mapped-same : (l fec : ℕ) → fec < length t.loopbacks → is_operational (knowledge_of (wiring_of t) c v s m) l ≡ true
      → is_mapped false fec (hearing (knowledge_of (wiring_of t) c v s m) l).messages ≡ is_mapped false fec
      (hearing (knowledge_in (node_of t c v s m)) l).messages
  mapped-same l fec below on = elim (leb_tells (length t.links) l) [
    | inl p ↦ ap (λ x. is_mapped false fec x.messages) (hearing_past t c v s m l p.1)
        ∙ sym (ap (λ x. is_mapped false fec x.messages) (kept_past t c v s m l p.1))
    | inr p ↦ mapped-at l fec (lives c l && is_end (wiring_of t) l m) refl p.1 below on
  ]

  -- the node that the ledger means knows as much as the ledger says
  pub knows_as_much : SaysAlike (wiring_of t) (knowledge_of (wiring_of t) c v s m) (knowledge_in (node_of t c v s m))
  unfolding knowledge_of
  knows_as_much = record {
    view = sym (map-both (λ count. count % 2 == 1) (v.learned m) (links_of (wiring_of t)));
    operational = operational-is;
    mapped = mapped-same;
  }

-- so its news is the ledger's
pub news-is : (t : Network) (c new : Config) (v nv : Views) (s k : Sessions) (m : ℕ)
    → news (wiring_of t) (knowledge_of (wiring_of t) c v s m) (knowledge_of (wiring_of t) new nv k m) m ≡ news (wiring_of t)
    (knowledge_in (node_of t c v s m)) (knowledge_in (node_of t new nv k m)) m
news-is t c new v nv s k m =
    news-alike (wiring_of t) (knowledge_of (wiring_of t) c v s m) (knowledge_of (wiring_of t) new nv k m) (knowledge_in (node_of t c v s m))
    (knowledge_in (node_of t new nv k m)) m (knows_as_much t c v s m) (knows_as_much t new nv k m)
