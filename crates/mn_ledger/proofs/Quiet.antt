-- Who learns nothing in a step says nothing in it.
use Rattle.std.proofs.Common.{ℕ, ◌≡◌, ◌+◌, ◌<◌, inl, inr, Bool, true, false, List, [], ◌∷◌, ◌++◌, filter, length, refl, arith, sym, ◌∙◌, ap, subst}
use Rattle.std.specs.Prelude.{◌==◌, ◌&&◌, if◌then◌else◌}
use Rattle.std.specs.List.{flat_map}
use Rattle.std.proofs.lemmas.Bool.Decides.{eqb_tells}
use Rattle.std.proofs.lemmas.List.Elements.{filter-append}
use Rattle.std.proofs.lemmas.List.FromFn.{get_or-map-range_with_len}
use Rattle.mn_topo.specs.Wiring.{Wiring, link, is_end, receiver, sender}
use Rattle.mn_node.proofs.News.{by-said, by-news, part_none, no_news}
use Rattle.mn_base.proofs.Bools.{and_on, less_tells, and_off_left, clash}
use Rattle.mn_topo.specs.Network.{Network, wiring_of}
use Rattle.mn_topo.specs.Steps.{fits}
use Rattle.mn_topo.specs.declared.steps.Step.{Step}
use Rattle.mn_topo.specs.declared.steps.Step.TheVariants as step
use Rattle.mn_ledger.specs.World.{World, Config, Views, Sessions, Initialization}
use Rattle.mn_ledger.specs.Transport.{Said, Knowledge, known, lives, knowledge_of, hearing, hearing_at, is_active, said_on, opening, ldp_replies, answered}
use Rattle.mn_ledger.specs.Transport.{news, speakers, ldp_counted, views_after}
use Rattle.mn_ledger.specs.Ledger.{config_after}
use Rattle.mn_ledger.specs.Refusal.{is_unchanged, agree}
use Rattle.mn_ledger.specs.Quiet.{known_after, said_by}
use Rattle.mn_ledger.proofs.Turning.{opener, is_end-a, is_end-b}
use Rattle.mn_ledger.proofs.GoingBy.{put_here, pair_here}

-- 1. News is sent by its node

no_news_by : (w : Wiring) (before after : ℕ → Knowledge) (node : ℕ) (ns : List ℕ) → before node ≡ after node →
    filter (λ said. said.end == node) (flat_map (λ n. news w (before n) (after n) n) ns) ≡ []
no_news_by w before after node [] e = refl
no_news_by w before after node (n ∷ ns) e =
    filter-append (λ (said : Said). said.end == node) (news w (before n) (after n) n) (flat_map (λ m. news w (before m) (after m) m) ns)
    ∙ ap (λ xs. xs ++ filter (λ said. said.end == node) (flat_map (λ m. news w (before m) (after m) m) ns)) here
    ∙ no_news_by w before after node ns e
  where
    here : filter (λ said. said.end == node) (news w (before n) (after n) n) ≡ []
    here = elim (eqb_tells n node) [
      | inl p ↦ ap (filter (λ (said : Said). said.end == node)) (ap (λ m. news w (before m) (after m) m) p.1 ∙ ap (λ k. news w k (after node) node) e
          ∙ no_news w (after node) node)
      | inr p ↦ part_none n node (news w (before n) (after n) n) p.1 (by-news w (before n) (after n) n)
    ]

-- 2. Replies are sent by who learns something

pub hearing-is : (w : Wiring) (c : Config) (v : Views) (s : Sessions) (node l : ℕ) → l < length w.ends →
    hearing (knowledge_of w c v s node) l ≡ hearing_at w c s node l
unfolding knowledge_of
hearing-is w c v s node l h =
    get_or-map-range_with_len (hearing_at w c s node) 0 (length w.ends) l l (record { alive = false; count = 0; messages = [] }) h (omega arith)

pub opener_end : (t : Network) (l : ℕ) → is_end (wiring_of t) l (opener t l) ≡ true
opener_end t l = either (is_active t l (link (wiring_of t) l).a.0)
  where
    either : (b : Bool) → is_end (wiring_of t) l (if b then (link (wiring_of t) l).a.0 else (link (wiring_of t) l).b.0) ≡ true
    either true = is_end-a (wiring_of t) l
    either false = is_end-b (wiring_of t) l

-- who begins a life learns that it lives
no_opening : (t : Network) (c new : Config) (v nv : Views) (s k : Sessions) (l node : ℕ) → l < length t.links → lives c l ≡ false
    → knowledge_of (wiring_of t) c v s node ≡ knowledge_of (wiring_of t) new nv k node → filter (λ said. said.end == node) (opening t new l) ≡ []
no_opening t c new v nv s k l node h dead e = by_life (lives new l) refl
  where
    by_life : (alive : Bool) → lives new l ≡ alive → filter (λ said. said.end == node) (opening t new l) ≡ []
    by_life false a =
        ap (λ b. filter (λ (said : Said). said.end == node)
        (elim b as (λ _. List Said) [ true ↦ said_on l (opener t l) (Initialization ∷ []) | false ↦ [] ])) a
    by_life true a =
        ap (λ b. filter (λ (said : Said). said.end == node) (elim b as (λ _. List Said) [ true ↦ said_on l (opener t l) (Initialization ∷ []) | false ↦ [] ])) a
        ∙ (elim (eqb_tells (opener t l) node) [
          | inr p ↦ part_none (opener t l) node (said_on l (opener t l) (Initialization ∷ [])) p.1 (by-said l (opener t l) (Initialization ∷ []))
          | inl p ↦ absurd
              (clash (sym (and_on (lives new l) (is_end (wiring_of t) l node) a (ap (is_end (wiring_of t) l) (sym p.1) ∙ opener_end t l))
              ∙ sym (ap (λ x. x.alive) (hearing-is (wiring_of t) new nv k node l h)) ∙ sym (ap (λ x. (hearing x l).alive) e)
              ∙ ap (λ x. x.alive) (hearing-is (wiring_of t) c v s node l h) ∙ and_off_left (lives c l) (is_end (wiring_of t) l node) dead))
        ])

-- who receives a message has received one more
no_answer : (t : Network) (c new : Config) (v nv : Views) (s k : Sessions) (l m other node : ℕ) → l < length t.links → k.heard l m ≡ s.heard l m + 1
    → knowledge_of (wiring_of t) c v s node ≡ knowledge_of (wiring_of t) new nv k node → filter (λ said. said.end == node) (answered t s l m other) ≡ []
no_answer t c new v nv s k l m other node h more e = elim (eqb_tells m node) [
  | inr p ↦ part_none m node (answered t s l m other) p.1 (by-said l m _)
  | inl p ↦ absurd
      (one_more (s.heard l node) (sym (ap (λ x. x.count) (hearing-is (wiring_of t) c v s node l h)) ∙ ap (λ x. (hearing x l).count) e
      ∙ ap (λ x. x.count) (hearing-is (wiring_of t) new nv k node l h) ∙ subst (λ n. k.heard l n ≡ s.heard l n + 1) p.1 more))
]
  where
    one_more : (n : ℕ) → n ≡ n + 1 → ⊥
    one_more n e = omega (arith, e)

-- a switch that changes and leaves the session alive was off before
was_off : (up was on : Bool) → agree on was ≡ false → (up && on) ≡ true → (up && was) ≡ false
was_off true false true a h = refl
was_off true true true a h = absurd (clash a)
was_off true false false a h = refl
was_off true true false a h = absurd (clash (sym h))
was_off false was on a h = refl

no_replies : (t : Network) (w : World) (s : Step) (node : ℕ) → fits t s ≡ true → is_unchanged w.config s ≡ false → known t w node ≡ known_after t w s node →
    filter (λ said. said.end == node) (ldp_replies t (config_after w.config s) w.sessions s) ≡ []
no_replies t w (step.LinkUp l) node fit new e =
    no_opening t w.config (config_after w.config (step.LinkUp l)) w.views (views_after w.views (step.LinkUp l)) w.sessions
    (ldp_counted t w.sessions (step.LinkUp l)) l.0 node (less_tells l.0 (length t.links) fit)
    (and_off_left (w.config.is_up l.0) (w.config.ldp_on l.0) new) e
no_replies t w (step.LdpAdmin l on) node fit new e = by_life (lives (config_after w.config (step.LdpAdmin l on)) l.0) refl
  where
    by_life : (alive : Bool) → lives (config_after w.config (step.LdpAdmin l on)) l.0 ≡ alive →
        filter (λ said. said.end == node) (opening t (config_after w.config (step.LdpAdmin l on)) l.0) ≡ []
    by_life false a =
        ap (λ b. filter (λ (said : Said). said.end == node)
        (elim b as (λ _. List Said) [ true ↦ said_on l.0 (opener t l.0) (Initialization ∷ []) | false ↦ [] ])) a
    by_life true a =
        no_opening t w.config (config_after w.config (step.LdpAdmin l on)) w.views (views_after w.views (step.LdpAdmin l on)) w.sessions
        (ldp_counted t w.sessions (step.LdpAdmin l on)) l.0 node (less_tells l.0 (length t.links) fit)
        (was_off (w.config.is_up l.0) (w.config.ldp_on l.0) on new (sym (ap (λ b. w.config.is_up l.0 && b) (put_here w.config.ldp_on l.0 on)) ∙ a)) e
no_replies t w (step.HearLdp l dir) node fit new e =
    no_answer t w.config w.config w.views w.views w.sessions (ldp_counted t w.sessions (step.HearLdp l dir)) l.0 (receiver (wiring_of t) l.0 dir)
    (sender (wiring_of t) l.0 dir) node (less_tells l.0 (length t.links) fit)
    (pair_here w.sessions.heard l.0 (receiver (wiring_of t) l.0 dir) (w.sessions.heard l.0 (receiver (wiring_of t) l.0 dir) + 1)) e
no_replies t w _ node fit new e = refl

pub says_nothing : (t : Network) (w : World) (s : Step) (node : ℕ) → fits t s ≡ true → is_unchanged w.config s ≡ false →
    known t w node ≡ known_after t w s node → said_by t w s node ≡ []
says_nothing t w s node fit new e =
    filter-append (λ (said : Said). said.end == node) (ldp_replies t (config_after w.config s) w.sessions s) _
    ∙ ap (λ xs. xs ++ filter (λ said. said.end == node)
    (flat_map (λ n. news (wiring_of t) (known t w n) (known_after t w s n) n) (speakers (wiring_of t) s))) (no_replies t w s node fit new e)
    ∙ no_news_by (wiring_of t) (known t w) (known_after t w s) node (speakers (wiring_of t) s) e
