-- A node that has sent something keeps how much it sent.
use Rattle.std.proofs.Common.{ℕ, zero, suc, ◌≡◌, ◌+◌, ◌<◌, ◌≤◌, Bool, true, false, cond, List, [], ◌∷◌, ◌++◌, length, map, filter, refl, arith, sym, ◌∙◌}
use Rattle.std.proofs.Common.{ap, Option, Some, None}
use Rattle.std.specs.Prelude.{◌==◌, ◌&&◌, option_map, if◌then◌else◌}
use Rattle.std.specs.List.{range_with_len}
use Rattle.std.proofs.lemmas.List.{length-append, take-append-le}
use Rattle.mn_wiring.specs.Wiring.{nodes_of, links_of, is_end, across}
use Rattle.mn_base.proofs.Bools.{and_false}
use Rattle.mn_topo.specs.Network.{Network, wiring_of}
use Rattle.mn_ledger.specs.World.{Config, Views, Sessions}
use Rattle.mn_ledger.specs.Transport.{lives, ldp_state_of, heard_by, with_said}
use Rattle.mn_node.specs.Ldp.{Said, is_by, messages_of}
use Rattle.mn_node.specs.Node.{Session, Node}
use Rattle.mn_node.specs.Machine.{with_count, counted_from, having_said}
use Rattle.mn_slice_laws.specs.Slice.{label_heard, session_of, node_of}
use Rattle.mn_node.proofs.Lists.{map_below}

counted-map : (me : ℕ) (xs : List Said) (f : ℕ → Option Session) (n q : ℕ)
    → counted_from q me xs (map f (range_with_len q n)) ≡ map (λ l. option_map (with_count (length (messages_of l me xs))) (f l)) (range_with_len q n)
counted-map me xs f zero q = refl
counted-map me xs f (suc n) q = ap (λ ss. option_map (with_count (length (messages_of q me xs))) (f q) ∷ ss) (counted-map me xs f n (q + 1))

-- no end has received more than was sent
abbrev pub HeardWithin : Network → Config → Sessions → Type 0
HeardWithin t c s = (l node : ℕ) → l < length t.links → is_end (wiring_of t) l node ≡ true → s.heard l node ≤ length (s.said l (across (wiring_of t) l node))

session-said : (t : Network) (c : Config) (k : Sessions) (xs : List Said) (m l : ℕ) →
    (is_end (wiring_of t) l m ≡ true → k.heard l m ≤ length (k.said l (across (wiring_of t) l m)))
    → session_of t c (with_said k xs) m l ≡ option_map (with_count (length (messages_of l m xs))) (session_of t c k m l)
session-said t c k xs m l within = by (lives c l) (is_end (wiring_of t) l m) within
  where
    by : (on at_end : Bool) → (at_end ≡ true → k.heard l m ≤ length (k.said l (across (wiring_of t) l m)))
        → (if on && at_end then Some (record {
          state = ldp_state_of t k l m;
          said = length (k.said l m ++ messages_of l m xs);
          labels =
              map (label_heard (across (wiring_of t) l m) (heard_by (wiring_of t) (with_said k xs) l m)) (nodes_of (wiring_of t));
        }) else None)
        ≡ option_map (with_count (length (messages_of l m xs)))
        (if on && at_end then Some (record {
          state = ldp_state_of t k l m;
          said = length (k.said l m);
          labels =
              map (label_heard (across (wiring_of t) l m) (heard_by (wiring_of t) k l m)) (nodes_of (wiring_of t));
        }) else None)
    by false at_end h = refl
    by true false h = refl
    by true true h =
        ap (λ n. let o : Option Session =
        Some (record {
          state = ldp_state_of t k l m;
          said = n;
          labels =
              map (label_heard (across (wiring_of t) l m) (heard_by (wiring_of t) (with_said k xs) l m)) (nodes_of (wiring_of t));
        }) in
        o) (length-append (k.said l m) (messages_of l m xs))
        ∙ ap (λ ms. let o : Option Session =
        Some (record {
          state = ldp_state_of t k l m;
          said = length (k.said l m) + length (messages_of l m xs);
          labels =
              map (label_heard (across (wiring_of t) l m) ms) (nodes_of (wiring_of t));
        }) in o)
        (take-append-le (k.heard l m) (k.said l (across (wiring_of t) l m)) (messages_of l (across (wiring_of t) l m) xs) (h refl))

pub node-said : (t : Network) (c : Config) (v : Views) (k : Sessions) (xs : List Said) (m : ℕ) → HeardWithin t c k →
    node_of t c v (with_said k xs) m ≡ having_said (node_of t c v k m) xs
node-said t c v k xs m within =
    ap (λ ss. let n : Node = record { me = m; learned = map (v.learned m) (links_of (wiring_of t)); sessions = ss } in n)
    (map_below (session_of t c (with_said k xs) m) (λ l. option_map (with_count (length (messages_of l m xs))) (session_of t c k m l)) (length t.links) 0
    (λ l low below. session-said t c k xs m l (within l m (omega (arith, below))))
    ∙ sym (counted-map m xs (session_of t c k m) (length t.links) 0))

pick_alike : (b : Bool) (x : Said) (ys zs : List Said) → map (λ said. said.message) ys ≡ map (λ said. said.message) zs
    → map (λ said. said.message) (cond b (x ∷ ys) ys) ≡ map (λ said. said.message) (cond b (x ∷ zs) zs)
pick_alike true x ys zs e = ap (λ ms. x.message ∷ ms) e
pick_alike false x ys zs e = e

only_own : (l me : ℕ) (xs : List Said) → messages_of l me (filter (λ said. said.end == me) xs) ≡ messages_of l me xs
only_own l me [] = refl
only_own l me (x ∷ xs) = by (x.end == me) refl (only_own l me xs)
  where
    by : (own : Bool) → (x.end == me) ≡ own → messages_of l me (filter (λ said. said.end == me) xs) ≡ messages_of l me xs
        → messages_of l me (cond own (x ∷ filter (λ said. said.end == me) xs) (filter (λ said. said.end == me) xs)) ≡ map (λ said. said.message)
        (cond ((x.link == l) && own) (x ∷ filter (is_by l me) xs) (filter (is_by l me) xs))
    by true e h =
        ap (λ b. map (λ said. said.message)
        (cond ((x.link == l) && b) (x ∷ filter (is_by l me) (filter (λ said. said.end == me) xs))
        (filter (is_by l me) (filter (λ said. said.end == me) xs)))) e
        ∙ pick_alike ((x.link == l) && true) x (filter (is_by l me) (filter (λ said. said.end == me) xs)) (filter (is_by l me) xs) h
    by false e h =
        h ∙ sym (ap (λ b. map (λ (said : Said). said.message) (cond b (x ∷ filter (is_by l me) xs) (filter (is_by l me) xs))) (and_false (x.link == l)))

counted-same : (q me : ℕ) (xs ys : List Said) (ss : List (Option Session)) →
    ((l : ℕ) → messages_of l me xs ≡ messages_of l me ys) → counted_from q me xs ss ≡ counted_from q me ys ss
counted-same q me xs ys [] h = refl
counted-same q me xs ys (s ∷ ss) h =
    ap (λ ms. option_map (with_count (length ms)) s ∷ counted_from (q + 1) me xs ss) (h q)
    ∙ ap (λ ts. option_map (with_count (length (messages_of q me ys))) s ∷ ts) (counted-same (q + 1) me xs ys ss h)

pub having-own : (n : Node) (xs : List Said) → having_said n xs ≡ having_said n (filter (λ said. said.end == n.me) xs)
having-own n xs =
    ap (λ ss. let o : Node = record n { sessions = ss } in
    o) (counted-same 0 n.me xs (filter (λ said. said.end == n.me) xs) n.sessions (λ l. sym (only_own l n.me xs)))
