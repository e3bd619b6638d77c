-- Each step of a lawful journal keeps LDP sessions in turn.
use Rattle.std.proofs.Common.{ℕ, suc, ◌≡◌, ◌≢◌, ◌+◌, ◌<◌, ◌≤◌, ◌⊎◌, inl, inr, Bool, true, false, cond, List, [], ◌∷◌, ◌++◌, length, refl, arith, sym, ◌∙◌}
use Rattle.std.proofs.Common.{ap, subst, append-nil, add-one}
use Rattle.std.specs.Prelude.{◌&&◌, slice_index_or, ⊤}
use Rattle.std.specs.List.{flat_map}
use Rattle.std.proofs.lemmas.Bool.Decides.{eqb_tells}
use Rattle.std.proofs.lemmas.List.{length-append}
use Rattle.mn_base.proofs.Bools.{clash, and_off_left}
use Rattle.mn_topo.specs.Wiring.{is_end, across, sender, receiver, JoinsNodes, EndsDiffer}
pub use Rattle.mn_base.proofs.Bools.{not_false}
use Rattle.mn_topo.specs.Network.{Network, wiring_of}
use Rattle.mn_topo.specs.declared.steps.Step.{Step}
use Rattle.mn_topo.specs.declared.steps.Step.TheVariants.{LinkUp, LinkDown, Learn, LdpAdmin, HearLdp}
use Rattle.mn_ledger.specs.Tables.{put, put_pair}
use Rattle.mn_ledger.specs.World.{Config, Views, Sessions, Message, Initialization, Address, World}
use Rattle.mn_ledger.specs.Transport.{Said, lives, is_active, state_by, answer, said_on, messages_of, opening, knowledge_of, news, speakers, ldp_restarted}
use Rattle.mn_ledger.specs.Transport.{ldp_counted}
use Rattle.mn_ledger.specs.Transport.{with_said, sessions_after, views_after}
use Rattle.mn_ledger.specs.Packets.{Packets}
use Rattle.mn_ledger.specs.Ledger.{config_after, after}
use Rattle.mn_ledger.specs.Refusal.{is_empty}
use Rattle.mn_ledger.specs.Turns.{IsTalk, IsEndInTurn, EndsAreInTurn}
use Rattle.mn_ledger.proofs.Talk.{IsNth, talk-nth, talk-heard, talk-said}
use Rattle.mn_ledger.proofs.Mentions.{EachNews, each-speaker, messages-append, messages-mentions, messages-none, few-off, dead-off}
use Rattle.mn_ledger.proofs.Turning.{Apart, said-own, said-other, opening_talk, opener, across-end, dir_ends}
pub use Rattle.mn_base.proofs.Bools.{or_off as or_both, not_at_most_tells as above}

pub put_here : {A : Type 0} (f : ℕ → A) (k : ℕ) (v : A) → put f k v k ≡ v
put_here f k v = elim (eqb_tells k k) [ inl p ↦ ap (λ b. cond b v (f k)) p.0 | inr p ↦ absurd (p.1 refl) ]

pub put_off : {A : Type 0} (f : ℕ → A) (k : ℕ) (v : A) (j : ℕ) → j ≢ k → put f k v j ≡ f j
put_off f k v j d = elim (eqb_tells j k) [ inl p ↦ absurd (d p.1) | inr p ↦ ap (λ b. cond b v (f j)) p.0 ]

-- 1. One end, whatever the step

-- nothing of its own happened to it: it may say of its offers
keeps : (t : Network) (c new : Config) (v : Views) (s k : Sessions) (xs ns : List Said) (l node : ℕ) → l < length t.links →
    EachNews (λ n. knowledge_of (wiring_of t) new v k n) ns
    → k.said l node ≡ s.said l node → k.heard l node ≡ s.heard l node → k.said l (across (wiring_of t) l node) ≡ s.said l (across (wiring_of t) l node) →
    lives new l ≡ lives c l → messages_of l node xs ≡ []
    → IsEndInTurn t c s l node → IsEndInTurn t new (with_said k (xs ++ ns)) l node
keeps t c new v s k xs ns l node below each said heard far alive none g =
    let only : messages_of l node (xs ++ ns) ≡ messages_of l node ns = messages-append l node xs ns ∙ ap (λ ms. ms ++ messages_of l node ns) none in
    record {
      heard = omega (
        arith,
        g.heard,
        ap (λ n. n) heard,
        ap length far,
        length-append (k.said l (across (wiring_of t) l node))
            (messages_of l (across (wiring_of t) l node) (xs ++ ns)),
      );
      silent = λ dead. (
        ap (λ ms. k.said l node ++ ms)
            (only ∙ messages-none (λ n. knowledge_of (wiring_of t) new v k n) l node ns each (dead-off (wiring_of t) new v k node l below dead))
            ∙ append-nil (k.said l node) ∙ said ∙ (g.silent (sym alive ∙ dead)).0,
        heard ∙ (g.silent (sym alive ∙ dead)).1,
      );
      talk = λ on.
          subst (λ n. IsTalk (is_active t l node) n (k.said l node ++ messages_of l node (xs ++ ns))) (sym heard)
          (subst (λ ms. IsTalk (is_active t l node) (s.heard l node) (ms ++ messages_of l node (xs ++ ns))) (sym said)
          (subst (λ ms. IsTalk (is_active t l node) (s.heard l node) (s.said l node ++ ms)) (sym only)
          (talk-said (is_active t l node) (s.heard l node) (s.said l node) (messages_of l node ns) (g.talk (sym alive ∙ on))
          (λ few. messages-none (λ n. knowledge_of (wiring_of t) new v k n) l node ns each
          (few-off (wiring_of t) new v k node l below (subst (λ n. n < 2) (sym heard) few)))
          (messages-mentions (λ n. knowledge_of (wiring_of t) new v k n) l node ns each))));
    }

open_if : (t : Network) (new : Config) (l : ℕ) (alive : Bool) → lives new l ≡ alive →
    opening t new l ≡ elim alive [ true ↦ said_on l (opener t l) (Initialization ∷ []) | false ↦ [] ]
open_if t new l alive h = ap (λ b. elim b as (λ _. List Said) [ true ↦ said_on l (opener t l) (Initialization ∷ []) | false ↦ [] ]) h

-- a life begins, or there is none
begins : (t : Network) (new : Config) (v : Views) (k : Sessions) (ns : List Said) (l node : ℕ) → Apart t → JoinsNodes (wiring_of t) →
    EndsDiffer (wiring_of t) → l < length t.links → is_end (wiring_of t) l node ≡ true
    → EachNews (λ n. knowledge_of (wiring_of t) new v k n) ns → k.said l node ≡ [] → k.heard l node ≡ 0 →
    IsEndInTurn t new (with_said k (opening t new l ++ ns)) l node
begins t new v k ns l node apart joins differ below at_end each said heard =
    let quiet : messages_of l node ns ≡ [] =
    messages-none (λ n. knowledge_of (wiring_of t) new v k n) l node ns each
    (few-off (wiring_of t) new v k node l below (subst (λ n. n < 2) (sym heard) (omega arith))) in
    let only : messages_of l node (opening t new l ++ ns) ≡ messages_of l node (opening t new l) =
    messages-append l node (opening t new l) ns ∙ ap (λ ms. messages_of l node (opening t new l) ++ ms) quiet
    ∙ append-nil (messages_of l node (opening t new l)) in
    let all : k.said l node ++ messages_of l node (opening t new l ++ ns) ≡ messages_of l node (opening t new l) =
    ap (λ ms. ms ++ messages_of l node (opening t new l ++ ns)) said ∙ only in
    record {
      heard = subst (λ n. n ≤ length (k.said l (across (wiring_of t) l node) ++ messages_of l (across (wiring_of t) l node) (opening t new l ++ ns)))
          (sym heard) (omega arith);
      silent = λ dead. (all ∙ ap (messages_of l node) (open_if t new l false dead), heard);
      talk = λ on.
          subst (λ n. IsTalk (is_active t l node) n (k.said l node ++ messages_of l node (opening t new l ++ ns))) (sym heard)
          (subst (λ ms. IsTalk (is_active t l node) 0 ms) (sym (all ∙ ap (messages_of l node) (open_if t new l true on)))
          (opening_talk t l node apart joins differ below at_end));
    }

-- it receives the other end's next message, and answers
hears : (t : Network) (c : Config) (v : Views) (s k : Sessions) (ns : List Said) (l node other : ℕ) → l < length t.links → across (wiring_of t) l node ≡ other
    → EachNews (λ n. knowledge_of (wiring_of t) c v k n) ns → k.said l node ≡ s.said l node → k.said l other ≡ s.said l other →
    k.heard l node ≡ s.heard l node + 1
    → lives c l ≡ true → s.heard l node < length (s.said l other) → IsEndInTurn t c s l node → IsEndInTurn t c s l other
    → IsEndInTurn t c
    (with_said k
    (said_on l node (answer (state_by (is_active t l node) (s.heard l node)) (slice_index_or (s.said l other) (s.heard l node) Address)) ++ ns)) l node
hears t c v s k ns l node other below far each said far_said heard alive more g far_g =
    let message : Message = slice_index_or (s.said l other) (s.heard l node) Address in
    let answers : List Message = answer (state_by (is_active t l node) (s.heard l node)) message in
    let turn : IsNth (s.heard l node) message = talk-nth (is_active t l other) (s.heard l other) (s.said l other) (s.heard l node) (far_g.talk alive) more in
    let only : messages_of l node (said_on l node answers ++ ns) ≡ answers ++ messages_of l node ns =
    messages-append l node (said_on l node answers) ns ∙ ap (λ ms. ms ++ messages_of l node ns) (said-own l node answers) in
    record {
      heard = subst (λ n. k.heard l node ≤ length (k.said l n ++ messages_of l n (said_on l node answers ++ ns))) (sym far)
          (omega (arith, more, heard, ap length far_said, length-append (k.said l other) (messages_of l other (said_on l node answers ++ ns))));
      silent = λ dead. absurd (clash (sym alive ∙ dead));
      talk = λ on.
          subst (λ n. IsTalk (is_active t l node) n (k.said l node ++ messages_of l node (said_on l node answers ++ ns)))
          (sym (heard ∙ add-one (s.heard l node)))
          (subst (λ ms. IsTalk (is_active t l node) (suc (s.heard l node)) (ms ++ messages_of l node (said_on l node answers ++ ns))) (sym said)
          (subst (λ ms. IsTalk (is_active t l node) (suc (s.heard l node)) (s.said l node ++ ms)) (sym only)
          (talk-heard (is_active t l node) (s.heard l node) (s.said l node) message (messages_of l node ns) (g.talk alive) turn
          (λ none. messages-none (λ n. knowledge_of (wiring_of t) c v k n) l node ns each (few-off (wiring_of t) c v k node l below (few none)))
          (messages-mentions (λ n. knowledge_of (wiring_of t) c v k n) l node ns each))));
    }
  where
    few : s.heard l node ≡ 0 → k.heard l node < 2
    few e = omega (arith, e, heard)

-- 2. The steps

abbrev all_news : Network → Config → Views → Sessions → Config → Views → Sessions → Step → List Said
all_news t c v s new nv k step =
    flat_map (λ node. news (wiring_of t) (knowledge_of (wiring_of t) c v s node) (knowledge_of (wiring_of t) new nv k node) node)
    (speakers (wiring_of t) step)

each_news : (t : Network) (c : Config) (v : Views) (s : Sessions) (new : Config) (nv : Views) (k : Sessions) (step : Step) →
    EachNews (λ n. knowledge_of (wiring_of t) new nv k n) (all_news t c v s new nv k step)
each_news t c v s new nv k step =
    each-speaker (wiring_of t) (λ n. knowledge_of (wiring_of t) c v s n) (λ n. knowledge_of (wiring_of t) new nv k n) (speakers (wiring_of t) step)

-- a step that ends or begins the life of one link's session
life_step : (t : Network) (c new : Config) (v nv : Views) (s : Sessions) (step : Step) (at : ℕ) → Apart t → JoinsNodes (wiring_of t) →
    EndsDiffer (wiring_of t) → ldp_counted t s step ≡ ldp_restarted s at
    → (xs : List Said) → (xs ≡ opening t new at) ⊎ ((xs ≡ []) × (lives new at ≡ false)) →
    ((l : ℕ) → l ≢ at → lives new l ≡ lives c l) → EndsAreInTurn t c s →
    EndsAreInTurn t new (with_said (ldp_restarted s at) (xs ++ all_news t c v s new nv (ldp_restarted s at) step))
life_step t c new v nv s step at apart joins differ is xs which others h l node below at_end =
    elim (eqb_tells l at) [
      | inl p ↦ subst (λ j. IsEndInTurn t new (with_said (ldp_restarted s at) (xs ++ all_news t c v s new nv (ldp_restarted s at) step)) j node) (sym p.1)
          (here (subst (λ j. j < length t.links) p.1 below) (subst (λ j. is_end (wiring_of t) j node ≡ true) p.1 at_end))
      | inr p ↦ keeps t c new nv s (ldp_restarted s at) xs (all_news t c v s new nv (ldp_restarted s at) step) l node below
          (each_news t c v s new nv (ldp_restarted s at) step)
          (ap (λ f. f node) (put_off s.said at (λ n. []) l p.1)) (ap (λ f. f node) (put_off s.heard at (λ n. 0) l p.1))
          (ap (λ f. f (across (wiring_of t) l node)) (put_off s.said at (λ n. []) l p.1))
          (others l p.1) (elsewhere p.1) (h l node below at_end)
    ]
  where
    nothing : (k : Sessions) (ns : List Said) → k.said at node ≡ [] → k.heard at node ≡ 0 →
        (xs ≡ []) → lives new at ≡ false → EachNews (λ n. knowledge_of (wiring_of t) new nv k n) ns → at < length t.links →
        IsEndInTurn t new (with_said k (xs ++ ns)) at node
    nothing k ns said heard none dead each b = record {
      heard = subst (λ n. n ≤ length (k.said at (across (wiring_of t) at node) ++ messages_of at (across (wiring_of t) at node) (xs ++ ns))) (sym heard)
          (omega arith);
      silent = λ _. (
        ap (λ ms. ms ++ messages_of at node (xs ++ ns)) said ∙ ap (λ ys. messages_of at node (ys ++ ns)) none
            ∙ messages-none (λ n. knowledge_of (wiring_of t) new nv k n) at node ns each (dead-off (wiring_of t) new nv k node at b dead),
        heard,
      );
      talk = λ on. absurd (clash (sym on ∙ dead));
    }

    here : at < length t.links → is_end (wiring_of t) at node ≡ true →
        IsEndInTurn t new (with_said (ldp_restarted s at) (xs ++ all_news t c v s new nv (ldp_restarted s at) step)) at node
    here b e =
        let said : (ldp_restarted s at).said at node ≡ [] = ap (λ f. f node) (put_here s.said at (λ n. [])) in
        let heard : (ldp_restarted s at).heard at node ≡ 0 = ap (λ f. f node) (put_here s.heard at (λ n. 0)) in
        elim which [
          | inl q ↦ subst (λ ys. IsEndInTurn t new (with_said (ldp_restarted s at) (ys ++ all_news t c v s new nv (ldp_restarted s at) step)) at node) (sym q)
              (begins t new nv (ldp_restarted s at) (all_news t c v s new nv (ldp_restarted s at) step) at node apart joins differ b e
              (each_news t c v s new nv (ldp_restarted s at) step) said heard)
          | inr q ↦ nothing (ldp_restarted s at) (all_news t c v s new nv (ldp_restarted s at) step) said heard q.0 q.1
              (each_news t c v s new nv (ldp_restarted s at) step) b
        ]

    elsewhere : l ≢ at → messages_of l node xs ≡ []
    elsewhere d = elim which [
      | inl q ↦ ap (messages_of l node) q ∙ off (lives new at) refl
      | inr q ↦ ap (messages_of l node) q.0
    ]
      where
        off : (alive : Bool) → lives new at ≡ alive → messages_of l node (opening t new at) ≡ []
        off true a = ap (messages_of l node) (open_if t new at true a) ∙ said-other l node at (opener t at) (Initialization ∷ []) (inl (λ e. d (sym e)))
        off false a = ap (messages_of l node) (open_if t new at false a)

learn_step : (t : Network) (c : Config) (v nv : Views) (s : Sessions) (step : Step) → EndsAreInTurn t c s →
    EndsAreInTurn t c (with_said s ([] ++ all_news t c v s c nv s step))
learn_step t c v nv s step h l node below at_end =
    keeps t c c nv s s [] (all_news t c v s c nv s step) l node below (each_news t c v s c nv s step) refl refl refl refl refl (h l node below at_end)

pub pair_here : {A : Type 0} (f : ℕ → ℕ → A) (k m : ℕ) (x : A) → put_pair f k m x k m ≡ x
pair_here f k m x = ap (λ g. g m) (put_here f k (put (f k) m x)) ∙ put_here (f k) m x

pub pair_off : {A : Type 0} (f : ℕ → ℕ → A) (k m : ℕ) (x : A) (l n : ℕ) → (l ≢ k) ⊎ (n ≢ m) → put_pair f k m x l n ≡ f l n
pair_off f k m x l n d = elim d [
  | inl p ↦ ap (λ g. g n) (put_off f k (put (f k) m x) l p)
  | inr p ↦ elim (eqb_tells l k) [
    | inl q ↦ ap (λ j. put_pair f k m x j n) q.1 ∙ ap (λ g. g n) (put_here f k (put (f k) m x)) ∙ put_off (f k) m x n p ∙ ap (λ j. f j n) (sym q.1)
    | inr q ↦ ap (λ g. g n) (put_off f k (put (f k) m x) l q.1)
  ]
]

-- one end of a link receives
hear_step : (t : Network) (c : Config) (v : Views) (s : Sessions) (step : Step) (at m other : ℕ) → EndsDiffer (wiring_of t) →
    is_end (wiring_of t) at m ≡ true → across (wiring_of t) at m ≡ other → is_end (wiring_of t) at other ≡ true
    → lives c at ≡ true → s.heard at m < length (s.said at other) → at < length t.links
    → (k : Sessions) → k ≡ record s { heard = put_pair s.heard at m (s.heard at m + 1) } → EndsAreInTurn t c s
    → EndsAreInTurn t c
    (with_said k
    (said_on at m (answer (state_by (is_active t at m) (s.heard at m)) (slice_index_or (s.said at other) (s.heard at m) Address)) ++ all_news t c v s c
    v k step))
hear_step t c v s step at m other differ m_end far other_end alive more inside k is h l node below at_end =
    let answers : List Message = answer (state_by (is_active t at m) (s.heard at m)) (slice_index_or (s.said at other) (s.heard at m) Address) in
    let ns : List Said = all_news t c v s c v k step in
    let each = each_news t c v s c v k step in
    let said : k.said ≡ s.said = ap (λ x. x.said) is in
    let heard : k.heard ≡ put_pair s.heard at m (s.heard at m + 1) = ap (λ x. x.heard) is in
    let off : ((l ≢ at) ⊎ (node ≢ m)) → IsEndInTurn t c (with_said k (said_on at m answers ++ ns)) l node = λ d.
    keeps t c c v s k (said_on at m answers) ns l node below each (ap (λ f. f l node) said)
    (ap (λ f. f l node) heard ∙ pair_off s.heard at m (s.heard at m + 1) l node d) (ap (λ f. f l (across (wiring_of t) l node)) said) refl
    (said-other l node at m answers (elim d [ inl p ↦ inl (λ e. p (sym e)) | inr p ↦ inr (λ e. p (sym e)) ])) (h l node below at_end) in
    elim (eqb_tells l at) [
      | inr p ↦ off (inl p.1)
      | inl p ↦ elim (eqb_tells node m) [
        | inr q ↦ off (inr q.1)
        | inl q ↦
            subst (λ j. IsEndInTurn t c (with_said k (said_on at m answers ++ ns)) j node) (sym p.1)
            (subst (λ j. IsEndInTurn t c (with_said k (said_on at m answers ++ ns)) at j) (sym q.1)
            (hears t c v s k ns at m other inside far each (ap (λ f. f at m) said) (ap (λ f. f at other) said)
            (ap (λ f. f at m) heard ∙ pair_here s.heard at m (s.heard at m + 1)) alive more (h at m inside m_end) (h at other inside other_end)))
      ]
    ]

-- the link of the step is one of the network
abbrev pub LinkIsThere : Network → Step → Type 0
LinkIsThere t (HearLdp l dir) = l.0 < length t.links
LinkIsThere t _ = ⊤

pub sessions_go : (t : Network) (w : World) (k : Packets) (step : Step) → Apart t → JoinsNodes (wiring_of t) → EndsDiffer (wiring_of t) →
    LinkIsThere t step → is_empty t w k step ≡ false
    → EndsAreInTurn t w.config w.sessions → EndsAreInTurn t (after t w step).config (after t w step).sessions
unfolding sessions_after
sessions_go t w k (LinkUp l) apart joins differ there full h =
    life_step t w.config (config_after w.config (LinkUp l)) w.views (views_after w.views (LinkUp l)) w.sessions (LinkUp l) l.0 apart joins differ refl
    (opening t (config_after w.config (LinkUp l)) l.0) (inl refl) (λ j d. ap (λ b. b && w.config.ldp_on j) (put_off w.config.is_up l.0 true j d)) h
sessions_go t w k (LinkDown l) apart joins differ there full h =
    life_step t w.config (config_after w.config (LinkDown l)) w.views (views_after w.views (LinkDown l)) w.sessions (LinkDown l) l.0 apart joins differ refl
    [] (inr (refl, and_off_left (put w.config.is_up l.0 false l.0) (w.config.ldp_on l.0) (put_here w.config.is_up l.0 false)))
    (λ j d. ap (λ b. b && w.config.ldp_on j) (put_off w.config.is_up l.0 false j d)) h
sessions_go t w k (LdpAdmin l on) apart joins differ there full h =
    life_step t w.config (config_after w.config (LdpAdmin l on)) w.views (views_after w.views (LdpAdmin l on)) w.sessions
    (LdpAdmin l on) l.0 apart joins differ refl
    (opening t (config_after w.config (LdpAdmin l on)) l.0) (inl refl) (λ j d. ap (λ b. w.config.is_up j && b) (put_off w.config.ldp_on l.0 on j d)) h
sessions_go t w k (Learn n l) apart joins differ there full h = learn_step t w.config w.views (views_after w.views (Learn n l)) w.sessions (Learn n l) h
sessions_go t w k (HearLdp l dir) apart joins differ there full h =
    let m : ℕ = receiver (wiring_of t) l.0 dir in
    let other : ℕ = sender (wiring_of t) l.0 dir in
    let ends = dir_ends (wiring_of t) l.0 dir (differ l.0 there) in
    let parts = or_both _ _ full in
    hear_step t w.config w.views w.sessions (HearLdp l dir) l.0 m other differ ends.0 ends.1
    (subst (λ j. is_end (wiring_of t) l.0 j ≡ true) ends.1 (across-end (wiring_of t) l.0 m (differ l.0 there) ends.0).0)
    (not_false _ parts.0) (above _ _ parts.1) there (ldp_counted t w.sessions (HearLdp l dir)) refl h
sessions_go t w k _ apart joins differ there full h = λ l node below e. let g = h l node below e in record { heard = g.heard; silent = g.silent; talk = g.talk }
