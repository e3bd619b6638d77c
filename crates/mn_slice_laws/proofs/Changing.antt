-- What a step makes of views, counts and lives is, for each node, what happens to it.
use Rattle.std.proofs.Common.{ℕ, zero, suc, ◌≡◌, ◌≢◌, ◌+◌, ◌<◌, inl, inr, Bool, true, false, cond, List, [], ◌∷◌, ◌++◌, length, get_or, take, map, refl}
use Rattle.std.proofs.Common.{arith, sym, ◌∙◌, ap, Option, Some, None, add-one}
use Rattle.std.specs.Prelude.{◌&&◌, option_map, replicate, slice_set, if◌then◌else◌}
use Rattle.std.specs.List.{range_with_len}
use Rattle.std.proofs.lemmas.Bool.Decides.{eqb_tells}
use Rattle.std.proofs.lemmas.List.{take_more}
use Rattle.std.proofs.lemmas.List.FromFn.{get_or-map-range_with_len}
use Rattle.mn_base.proofs.Bools.{clash, other_test, same_test}
use Rattle.mn_wiring.specs.Wiring.{Wiring, nodes_of, links_of, is_end, across}
use Rattle.mn_topo.specs.Network.{Network, wiring_of}
use Rattle.mn_ledger.specs.Tables.{put_pair}
use Rattle.mn_ledger.specs.World.{Config, Views, Sessions}
use Rattle.mn_ledger.specs.Transport.{lives, is_active, ldp_state_of, heard_by, ldp_restarted}
use Rattle.mn_ledger.specs.Turns.{has_ldp_row}
use Rattle.mn_ledger.proofs.GoingBy.{put_here, put_off, pair_here, pair_off}
use Rattle.mn_node.specs.Ldp.{state_after, Message, Initialization, KeepAlive, Address, Mapping, Withdraw, Release, state_by, mapped_after, is_mapped}
use Rattle.mn_node.specs.Node.{label_brought, Session, Node, session_at, label_of}
use Rattle.mn_node.specs.Machine.{Event, Learns, Hears, labels_after, session_after, with_session, changed}
use Rattle.mn_slice_laws.specs.Slice.{label_heard, session_of, node_of, turned}
use Rattle.mn_node.proofs.Lists.{map_below, map-put}

-- what a node keeps once something may have happened to it, and before it says anything
abbrev pub changed_any : Wiring → Node → Option Event → Node
changed_any w n None = n
changed_any w n (Some e) = changed w n e

-- 1. A session by what is so of its link

abbrev session_by : Network → ℕ → ℕ → Bool → (ℕ → List Message) → ℕ → Option Session
session_by t m l alive said heard =
    if alive && is_end (wiring_of t) l m
    then Some (record {
      state = state_by (is_active t l m) heard;
      said = length (said m);
      labels =
          map (label_heard (across (wiring_of t) l m) (take heard (said (across (wiring_of t) l m)))) (nodes_of (wiring_of t));
    })
    else None

session-off : (t : Network) (m l : ℕ) (alive : Bool) (said : ℕ → List Message) (heard : ℕ) → is_end (wiring_of t) l m ≡ false →
    session_by t m l alive said heard ≡ None
session-off t m l false said heard e = refl
session-off t m l true said heard e =
    ap (λ b. let o : Option Session =
    if b then Some (record {
      state = state_by (is_active t l m) heard;
      said = length (said m);
      labels =
          map (label_heard (across (wiring_of t) l m) (take heard (said (across (wiring_of t) l m)))) (nodes_of (wiring_of t));
    }) else None in o) e

session-alike : (t : Network) (c new : Config) (s k : Sessions) (m l : ℕ) → lives new l ≡ lives c l → k.said l ≡ s.said l → k.heard l m ≡ s.heard l m →
    session_of t new k m l ≡ session_of t c s m l
session-alike t c new s k m l alive said heard =
    ap (λ b. session_by t m l b (k.said l) (k.heard l m)) alive ∙ ap (λ f. session_by t m l (lives c l) f (k.heard l m)) said
    ∙ ap (session_by t m l (lives c l) (s.said l)) heard

pub session_at-is : (t : Network) (c : Config) (v : Views) (s : Sessions) (m l : ℕ) → l < length t.links →
    session_at (node_of t c v s m) l ≡ session_of t c s m l
session_at-is t c v s m l below = get_or-map-range_with_len (session_of t c s m) 0 (length t.links) l l None below (omega arith)

-- 2. A change of a link is learned

pub learn_here : (t : Network) (c : Config) (v : Views) (s : Sessions) (n l : ℕ) → l < length t.links
    → node_of t c (record v { learned = put_pair v.learned n l (v.learned n l + 1) }) s n ≡ changed (wiring_of t) (node_of t c v s n) (Learns l)
learn_here t c v s n l below =
    ap (λ ls. let o : Node = record { me = n; learned = ls; sessions = map (session_of t c s n) (links_of (wiring_of t)) } in o)
    (sym (map-put (v.learned n) (put_pair v.learned n l (v.learned n l + 1) n) (length t.links) l (v.learned n l + 1) 0
    (pair_here v.learned n l (v.learned n l + 1)) (λ k b d. pair_off v.learned n l (v.learned n l + 1) n k (inr d)))
    ∙ sym (ap (λ x. slice_set (map (v.learned n) (links_of (wiring_of t))) l (x + 1))
    (get_or-map-range_with_len (v.learned n) 0 (length t.links) l l 0 below (omega arith))))

pub learn_elsewhere : (t : Network) (c : Config) (v : Views) (s : Sessions) (n l m : ℕ) → m ≢ n →
    node_of t c (record v { learned = put_pair v.learned n l (v.learned n l + 1) }) s m ≡ node_of t c v s m
learn_elsewhere t c v s n l m d =
    ap (λ ls. let o : Node = record { me = m; learned = ls; sessions = map (session_of t c s m) (links_of (wiring_of t)) } in o)
    (map_below (put_pair v.learned n l (v.learned n l + 1) m) (v.learned m) (length t.links) 0
    (λ k low below. pair_off v.learned n l (v.learned n l + 1) m k (inl d)))

-- 3. A session opens or closes

none_everywhere : (far n q : ℕ) → map (label_heard far []) (range_with_len q n) ≡ replicate n None
none_everywhere far zero q = refl
none_everywhere far (suc n) q = ap (λ ls. None ∷ ls) (none_everywhere far n (q + 1))

module _ (t : Network) (c new : Config) (v nv : Views) (s : Sessions) (l m : ℕ)
    (learned : nv.learned m ≡ v.learned m)
    (others : (k : ℕ) → k ≢ l → lives new k ≡ lives c k) where
  elsewhere : (k : ℕ) → k ≢ l → session_of t new (ldp_restarted s l) m k ≡ session_of t c s m k
  elsewhere k d =
      session-alike t c new s (ldp_restarted s l) m k (others k d) (put_off s.said l (λ node. []) k d) (ap (λ f. f m) (put_off s.heard l (λ node. 0) k d))

  here : session_of t new (ldp_restarted s l) m l ≡ session_by t m l (lives new l) (λ node. []) 0
  here = ap (λ f. session_by t m l (lives new l) f ((ldp_restarted s l).heard l m)) (put_here s.said l (λ node. []))
      ∙ ap (session_by t m l (lives new l) (λ node. [])) (ap (λ f. f m) (put_here s.heard l (λ node. 0)))

  set_to : (x : Option Session) → session_by t m l (lives new l) (λ node. []) 0 ≡ x →
      node_of t new nv (ldp_restarted s l) m ≡ with_session (node_of t c v s m) l x
  set_to x e =
      ap (λ f. let o : Node =
      record { me = m; learned = map f (links_of (wiring_of t)); sessions = map (session_of t new (ldp_restarted s l) m) (links_of (wiring_of t)) } in
      o) learned
      ∙ ap (λ ss. let o : Node = record { me = m; learned = map (v.learned m) (links_of (wiring_of t)); sessions = ss } in o)
      (sym (map-put (session_of t c s m) (session_of t new (ldp_restarted s l) m) (length t.links) l x None (here ∙ e) (λ k below d. elsewhere k d)))

  kept : session_by t m l (lives new l) (λ node. []) 0 ≡ session_of t c s m l → node_of t new nv (ldp_restarted s l) m ≡ node_of t c v s m
  kept e =
      ap (λ f. let o : Node =
      record { me = m; learned = map f (links_of (wiring_of t)); sessions = map (session_of t new (ldp_restarted s l) m) (links_of (wiring_of t)) } in
      o) learned
      ∙ ap (λ ss. let o : Node = record { me = m; learned = map (v.learned m) (links_of (wiring_of t)); sessions = ss } in o)
      (map_below (session_of t new (ldp_restarted s l) m) (session_of t c s m) (length t.links) 0
      (λ k low below. elim (eqb_tells k l) [
        | inl p ↦ ap (session_of t new (ldp_restarted s l) m) p.1 ∙ here ∙ e
            ∙ ap (session_of t c s m) (sym p.1)
        | inr p ↦ elsewhere k p.1
      ]))

  life-by : (at_end was is : Bool) → is_end (wiring_of t) l m ≡ at_end → lives c l ≡ was → lives new l ≡ is → (was ≡ true → is ≡ false)
      → node_of t new nv (ldp_restarted s l) m ≡ changed_any (wiring_of t) (node_of t c v s m) (if at_end then turned l was is else None)
  life-by false was is e f g once = kept (session-off t m l (lives new l) (λ node. []) 0 e ∙ sym (session-off t m l (lives c l) (s.said l) (s.heard l m) e))
  life-by true false false e f g once = kept (ap (λ b. session_by t m l b (λ node. []) 0) g ∙ sym (ap (λ b. session_by t m l b (s.said l) (s.heard l m)) f))
  life-by true false true e f g once =
      set_to (Some (record { state = state_by (is_active t l m) 0; said = 0; labels = replicate (length t.loopbacks) None }))
      (ap (λ b. session_by t m l b (λ node. []) 0) g
      ∙ ap (λ b. let o : Option Session =
      if b then Some (record {
        state = state_by (is_active t l m) 0;
        said = 0;
        labels =
            map (label_heard (across (wiring_of t) l m) []) (nodes_of (wiring_of t));
      }) else None in o) e
      ∙ ap (λ ls. let o : Option Session = Some (record { state = state_by (is_active t l m) 0; said = 0; labels = ls }) in
      o) (none_everywhere (across (wiring_of t) l m) (length t.loopbacks) 0))
  life-by true true false e f g once = set_to None (ap (λ b. session_by t m l b (λ node. []) 0) g)
  life-by true true true e f g once = absurd (clash (once refl))

  -- where a link's session lived, and doesn't live on, or didn't and does, that is what happens to its ends
  pub life : (lives c l ≡ true → lives new l ≡ false) →
      node_of t new nv (ldp_restarted s l) m ≡ changed_any (wiring_of t) (node_of t c v s m)
      (if is_end (wiring_of t) l m then turned l (lives c l) (lives new l) else None)
  life once = life-by (is_end (wiring_of t) l m) (lives c l) (lives new l) refl refl refl once

-- 4. A message is received

is_mapped-more : (b : Bool) (fec : ℕ) (xs : List Message) (x : Message) → is_mapped b fec (xs ++ x ∷ []) ≡ mapped_after (is_mapped b fec xs) fec x
is_mapped-more b fec [] x = refl
is_mapped-more b fec (y ∷ xs) x = is_mapped-more (mapped_after b fec y) fec xs x

abbrev label_if : ℕ → ℕ → Bool → Option ℕ
label_if far fec b = if b then Some (label_of far fec) else None

-- the labels once one more message is received
labels-more : (far n : ℕ) (xs : List Message) (x : Message)
    → map (label_heard far (xs ++ x ∷ [])) (range_with_len 0 n) ≡ labels_after (map (label_heard far xs) (range_with_len 0 n)) x (label_brought far x)
labels-more far n xs (Mapping p) =
    sym (map-put (label_heard far xs) (label_heard far (xs ++ Mapping p ∷ [])) n p (Some (label_of far p)) None
    (ap (label_if far p) (is_mapped-more false p xs (Mapping p) ∙ ap (λ b. cond b true (is_mapped false p xs)) (same_test p)))
    (λ k below d. ap (label_if far k) (is_mapped-more false k xs (Mapping p) ∙ ap (λ b. cond b true (is_mapped false k xs)) (other_test k p d))))
labels-more far n xs (Withdraw p) =
    sym (map-put (label_heard far xs) (label_heard far (xs ++ Withdraw p ∷ [])) n p None None
    (ap (label_if far p) (is_mapped-more false p xs (Withdraw p) ∙ ap (λ b. cond b false (is_mapped false p xs)) (same_test p)))
    (λ k below d. ap (label_if far k) (is_mapped-more false k xs (Withdraw p) ∙ ap (λ b. cond b false (is_mapped false k xs)) (other_test k p d))))
labels-more far n xs Initialization =
    map_below (label_heard far (xs ++ Initialization ∷ [])) (label_heard far xs) n 0
    (λ k low below. ap (label_if far k) (is_mapped-more false k xs Initialization))
labels-more far n xs KeepAlive =
    map_below (label_heard far (xs ++ KeepAlive ∷ [])) (label_heard far xs) n 0 (λ k low below. ap (label_if far k) (is_mapped-more false k xs KeepAlive))
labels-more far n xs Address =
    map_below (label_heard far (xs ++ Address ∷ [])) (label_heard far xs) n 0 (λ k low below. ap (label_if far k) (is_mapped-more false k xs Address))
labels-more far n xs (Release p) =
    map_below (label_heard far (xs ++ Release p ∷ [])) (label_heard far xs) n 0 (λ k low below. ap (label_if far k) (is_mapped-more false k xs (Release p)))

-- the state once one more message is received, for which the table has a row
state-more : (active : Bool) (heard : ℕ) (x : Message) → has_ldp_row (state_by active heard) x ≡ true →
    state_by active (suc heard) ≡ state_after (state_by active heard) x
state-more true zero Initialization h = refl
state-more false zero Initialization h = refl
state-more active (suc zero) KeepAlive h = refl
state-more active (suc (suc heard)) KeepAlive h = refl
state-more _ _ _ h = cc

module _ (t : Network) (c : Config) (v : Views) (s : Sessions) (l m : ℕ) where
  abbrev far : ℕ
  far = across (wiring_of t) l m

  abbrev heard_one : Sessions
  heard_one = record s { heard = put_pair s.heard l m (s.heard l m + 1) }

  abbrev heard_next : Message
  heard_next = get_or (s.said l far) (s.heard l m) Address

  session_heard : lives c l ≡ true → is_end (wiring_of t) l m ≡ true → s.heard l m < length (s.said l far) →
      has_ldp_row (ldp_state_of t s l m) heard_next ≡ true
      → session_of t c heard_one m l ≡ option_map (session_after heard_next (label_brought far heard_next)) (session_of t c s m l)
  session_heard alive at_end more row =
      ap (session_by t m l (lives c l) (s.said l)) (pair_here s.heard l m (s.heard l m + 1))
      ∙ at_once (lives c l) (is_end (wiring_of t) l m) alive at_end
    where
      state-is : state_by (is_active t l m) (s.heard l m + 1) ≡ state_after (ldp_state_of t s l m) heard_next
      state-is = ap (state_by (is_active t l m)) (add-one (s.heard l m)) ∙ state-more (is_active t l m) (s.heard l m) heard_next row

      labels-is : map (label_heard far (take (s.heard l m + 1) (s.said l far))) (nodes_of (wiring_of t)) ≡ labels_after
          (map (label_heard far (take (s.heard l m) (s.said l far))) (nodes_of (wiring_of t))) heard_next (label_brought far heard_next)
      labels-is =
          ap (λ ms. map (label_heard far ms) (nodes_of (wiring_of t))) (take_more (s.said l far) (s.heard l m) Address more)
          ∙ labels-more far (length t.loopbacks) (take (s.heard l m) (s.said l far)) heard_next

      at_once : (on end : Bool) → on ≡ true → end ≡ true
          → (if on && end then Some (record {
            state = state_by (is_active t l m) (s.heard l m + 1);
            said = length (s.said l m);
            labels =
                map (label_heard far (take (s.heard l m + 1) (s.said l far))) (nodes_of (wiring_of t));
          }) else None)
          ≡ option_map (session_after heard_next (label_brought far heard_next))
          (if on && end then Some (record {
            state = ldp_state_of t s l m;
            said = length (s.said l m);
            labels =
                map (label_heard far (heard_by (wiring_of t) s l m)) (nodes_of (wiring_of t));
          }) else None)
      at_once true true e f =
          ap (λ st. let o : Option Session =
          Some (record {
            state = st;
            said = length (s.said l m);
            labels =
                map (label_heard far (take (s.heard l m + 1) (s.said l far))) (nodes_of (wiring_of t));
          }) in o) state-is
          ∙ ap (λ ls. let o : Option Session =
          Some (record { state = state_after (ldp_state_of t s l m) heard_next; said = length (s.said l m); labels = ls }) in o) labels-is
      at_once true false e f = cc
      at_once false end e f = cc

  pub hear_here : l < length t.links → lives c l ≡ true → is_end (wiring_of t) l m ≡ true → s.heard l m < length (s.said l far) →
      has_ldp_row (ldp_state_of t s l m) heard_next ≡ true
      → node_of t c v heard_one m ≡ changed (wiring_of t) (node_of t c v s m) (Hears l heard_next (label_brought far heard_next))
  hear_here below alive at_end more row =
      ap (λ ss. let o : Node = record { me = m; learned = map (v.learned m) (links_of (wiring_of t)); sessions = ss } in o)
      (sym (map-put (session_of t c s m) (session_of t c heard_one m) (length t.links) l
      (option_map (session_after heard_next (label_brought far heard_next)) (session_of t c s m l)) None
      (session_heard alive at_end more row) (λ k b d. session-alike t c c s heard_one m k refl refl (pair_off s.heard l m (s.heard l m + 1) k m (inl d))))
      ∙ ap (λ x. slice_set (map (session_of t c s m) (links_of (wiring_of t))) l (option_map (session_after heard_next (label_brought far heard_next)) x))
      (sym (session_at-is t c v s m l below)))

  pub hear_elsewhere : (node : ℕ) → node ≢ m → node_of t c v heard_one node ≡ node_of t c v s node
  hear_elsewhere node d =
      ap (λ ss. let o : Node = record { me = node; learned = map (v.learned node) (links_of (wiring_of t)); sessions = ss } in o)
      (map_below (session_of t c heard_one node) (session_of t c s node) (length t.links) 0
      (λ k low below. session-alike t c c s heard_one node k refl refl (pair_off s.heard l m (s.heard l m + 1) k node (inr d))))
