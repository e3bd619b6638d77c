-- Without reflectors the ledger is that of a full mesh.
use Rattle.std.proofs.Common.{ℕ, zero, suc, ◌≡◌, Bool, true, false, cond, List, [], ◌∷◌, ◌++◌, map, filter}
use Rattle.std.proofs.Common.{refl, sym, ◌∙◌, ap, append-nil}
use Rattle.std.proofs.Math.Path.{fun_ext}
use Rattle.std.specs.Prelude.{◌==◌, ◌&&◌, not, slice_index_or}
use Rattle.std.specs.List.{flat_map}
use Rattle.std.proofs.lemmas.List.{map-append}
use Rattle.mn_states.specs.declared.states.BgpState.{BgpState}
use Rattle.mn_states.specs.declared.states.BgpState.TheVariants.{Idle, OpenSent, OpenConfirm, Established}
use Rattle.mn_topo.specs.Network.{Network}
use Rattle.mn_topo.specs.declared.steps.Step.{Step}
use Rattle.mn_topo.specs.declared.steps.Step.TheVariants as step
use Rattle.mn_topo.specs.declared.steps.JournalEntry.{JournalEntry}
use Rattle.mn_ledger.specs.Tables.{put, put_pair}
use Rattle.mn_ledger.specs.Places.{edges}
use Rattle.mn_ledger.specs.World.{Config, Export, Telling, BgpKeepAlive, Announcement, Withdrawal, Peerings, World}
use Rattle.mn_ledger.specs.World as world
use Rattle.mn_ledger.specs.Exports.{exports_of}
use Rattle.mn_ledger.specs.Bgp.{Told, is_from_to, tellings_of, told_to, reply, bgp_replies, route_news, told_in, bgp_counted, with_told, told_all}
use Rattle.mn_ledger.specs.Bgp.{peerings_after}
use Rattle.mn_ledger.specs.Bgp.{bgp_state_of}
use Rattle.mn_ledger.specs.Held as mesh
use Rattle.mn_ledger.specs.Held.{own_routes, near_routes, far_routes}
use Rattle.mn_ledger.specs.Ledger.{config_after, first_config, after, start, world_from, world_of}
use Rattle.mn_reflect_ledger_laws.specs.Words.{Word, Open, Announce}
use Rattle.mn_reflect_ledger_laws.specs.Picks.{Spoken, plain}
use Rattle.mn_reflect_ledger_laws.specs.World.{words_to, says}
use Rattle.mn_talk_laws.specs.Talk.{Talks, word_of, telling_of, talks_of, peerings_of, answer, answers, spoken_of, edge_news, spoken_in, counted}
use Rattle.mn_talk_laws.specs.Talk.{with_spoken, talks_after, no_talks, talks_from, held}
use Rattle.mn_talk_laws.specs.Laws.{steps_of, IsTheFullMesh}

-- 1. Words and tellings

back : (telling : Telling) → telling_of (word_of telling) ≡ telling
back world.Open = refl
back BgpKeepAlive = refl
back (Announcement export) = refl
back (Withdrawal v prefix) = refl

all_back : (tellings : List Telling) → map telling_of (map word_of tellings) ≡ tellings
all_back [] = refl
all_back (telling ∷ tellings) = ap (λ t. t ∷ map telling_of (map word_of tellings)) (back telling) ∙ ap (λ ts. telling ∷ ts) (all_back tellings)

peerings_back : (peerings : Peerings) → peerings_of (talks_of peerings) ≡ peerings
peerings_back peerings =
    ap (λ (f : ℕ → ℕ → List Telling). record { told = f; heard = peerings.heard })
    (fun_ext (λ teller. fun_ext (λ peer. all_back (peerings.told teller peer))))

words_spoken : (n p : ℕ) (tolds : List Told) → words_to n p (map spoken_of tolds) ≡ map word_of (tellings_of n p tolds)
words_spoken n p [] = refl
words_spoken n p (told ∷ tolds) = by ((told.teller == n) && (told.peer == p)) (words_spoken n p tolds)
  where
    by : (b : Bool) → words_to n p (map spoken_of tolds) ≡ map word_of (tellings_of n p tolds) →
        map (λ (s : Spoken). s.word) (cond b (spoken_of told ∷ filter (λ (s : Spoken). (s.from == n) && (s.to == p)) (map spoken_of tolds))
        (filter (λ (s : Spoken). (s.from == n) && (s.to == p)) (map spoken_of tolds)))
        ≡ map word_of (map (λ (t : Told). t.telling) (cond b (told ∷ filter (is_from_to n p) tolds) (filter (is_from_to n p) tolds)))
    by true e = ap (λ ws. word_of told.telling ∷ ws) e
    by false e = e

says_told : (n p : ℕ) (tellings : List Telling) → says n p (map word_of tellings) ≡ map spoken_of (told_to n p tellings)
says_told n p [] = refl
says_told n p (telling ∷ tellings) = ap (λ ss. record { from = n; to = p; word = word_of telling } ∷ ss) (says_told n p tellings)

index_word : (tellings : List Telling) (i : ℕ) → slice_index_or (map word_of tellings) i Open ≡ word_of (slice_index_or tellings i world.Open)
index_word [] zero = refl
index_word [] (suc i) = refl
index_word (telling ∷ tellings) zero = refl
index_word (telling ∷ tellings) (suc i) = index_word tellings i

all_announced : (exports : List Export) → map (λ (e : Export). Announce (plain e)) exports ≡ map word_of (map (λ (e : Export). Announcement e) exports)
all_announced [] = refl
all_announced (export ∷ exports) = ap (λ ws. Announce (plain export) ∷ ws) (all_announced exports)

answer_same : (state : BgpState) (telling : Telling) (exports : List Export) →
    answer state (word_of telling) (map (λ (e : Export). Announce (plain e)) exports) ≡ map word_of (reply state telling exports)
answer_same Idle world.Open exports = refl
answer_same Idle BgpKeepAlive exports = refl
answer_same Idle (Announcement export) exports = refl
answer_same Idle (Withdrawal v prefix) exports = refl
answer_same OpenSent world.Open exports = refl
answer_same OpenSent BgpKeepAlive exports = refl
answer_same OpenSent (Announcement export) exports = refl
answer_same OpenSent (Withdrawal v prefix) exports = refl
answer_same OpenConfirm world.Open exports = refl
answer_same OpenConfirm BgpKeepAlive exports = all_announced exports
answer_same OpenConfirm (Announcement export) exports = refl
answer_same OpenConfirm (Withdrawal v prefix) exports = refl
answer_same Established world.Open exports = refl
answer_same Established BgpKeepAlive exports = refl
answer_same Established (Announcement export) exports = refl
answer_same Established (Withdrawal v prefix) exports = refl

-- 2. Counts

map_pair : (t : ℕ → ℕ → List Telling) (a b : ℕ) →
    put_pair (λ n p. map word_of (t n p)) a b [] ≡ (λ n p. map word_of (put_pair t a b [] n p))
map_pair t a b = fun_ext (λ n. fun_ext (λ p. one n p (n == a)))
  where
    two : (p : ℕ) (y : Bool) → cond y [] (map word_of (t a p)) ≡ map word_of (cond y [] (t a p))
    two p true = refl
    two p false = refl

    one : (n p : ℕ) (x : Bool) → (cond x (put (λ o. map word_of (t a o)) b []) (λ o. map word_of (t n o))) p
        ≡ map word_of ((cond x (put (t a) b []) (t n)) p)
    one n p true = two p (p == b)
    one n p false = refl

restarts : (t : ℕ → ℕ → List Telling) (a b : ℕ) →
    put_pair (put_pair (λ n p. map word_of (t n p)) a b []) b a [] ≡ (λ n p. map word_of (put_pair (put_pair t a b []) b a [] n p))
restarts t a b = ap (λ (f : ℕ → ℕ → List Word). put_pair f b a []) (map_pair t a b) ∙ map_pair (put_pair t a b []) b a

counted_same : (p : Peerings) (done : Step) → counted (talks_of p) done ≡ talks_of (bgp_counted p done)
counted_same p (step.BgpUp a b) = ap (λ (f : ℕ → ℕ → List Word). record { told = f; heard = put_pair (put_pair p.heard a.0 b.0 0) b.0 a.0 0 })
    (restarts p.told a.0 b.0)
counted_same p (step.BgpDown a b) = ap (λ (f : ℕ → ℕ → List Word). record { told = f; heard = put_pair (put_pair p.heard a.0 b.0 0) b.0 a.0 0 })
    (restarts p.told a.0 b.0)
counted_same p (step.HearBgp a b) = refl
counted_same p (step.LinkUp l) = refl
counted_same p (step.LinkDown l) = refl
counted_same p (step.Learn node l) = refl
counted_same p (step.LdpAdmin l on) = refl
counted_same p (step.HearLdp l dir) = refl
counted_same p (step.AddRoute s prefix) = refl
counted_same p (step.DelRoute s prefix) = refl
counted_same p (step.Import v on target) = refl
counted_same p (step.Export v on target) = refl
counted_same p (step.Attach s) = refl
counted_same p (step.Detach s) = refl
counted_same p (step.Inject s number) = refl
counted_same p (step.Carry l dir place) = refl
counted_same p (step.Lose l dir place) = refl
counted_same p (step.Tick ticks) = refl

-- 3. What is told

module _ (t : Network) (c d : Config) (p : Peerings) where
  answers_same : (new : Talks) (done : Step) → answers t [] d (talks_of p) new done ≡ map spoken_of (bgp_replies t d p done)
  answers_same new (step.BgpUp a b) = refl
  answers_same new (step.BgpDown a b) = refl
  answers_same new (step.HearBgp a b) =
      ap (λ w. says b.0 a.0 (answer (bgp_state_of d p b.0 a.0) w (map (λ (e : Export). Announce (plain e)) (exports_of t d b.0))))
      (index_word (p.told a.0 b.0) (p.heard b.0 a.0))
      ∙ ap (says b.0 a.0) (answer_same (bgp_state_of d p b.0 a.0) (slice_index_or (p.told a.0 b.0) (p.heard b.0 a.0) world.Open) (exports_of t d b.0))
      ∙ says_told b.0 a.0 (reply (bgp_state_of d p b.0 a.0) (slice_index_or (p.told a.0 b.0) (p.heard b.0 a.0) world.Open) (exports_of t d b.0))
  answers_same new (step.LinkUp l) = refl
  answers_same new (step.LinkDown l) = refl
  answers_same new (step.Learn node l) = refl
  answers_same new (step.LdpAdmin l on) = refl
  answers_same new (step.HearLdp l dir) = refl
  answers_same new (step.AddRoute s prefix) = refl
  answers_same new (step.DelRoute s prefix) = refl
  answers_same new (step.Import v on target) = refl
  answers_same new (step.Export v on target) = refl
  answers_same new (step.Attach s) = refl
  answers_same new (step.Detach s) = refl
  answers_same new (step.Inject s number) = refl
  answers_same new (step.Carry l dir place) = refl
  answers_same new (step.Lose l dir place) = refl
  answers_same new (step.Tick ticks) = refl

  news_same : (q : Peerings) (es : List ℕ) →
      flat_map (edge_news t c (talks_of p) d (talks_of q)) es ≡ map spoken_of (flat_map (route_news t c p d q) es)
  news_same q [] = refl
  news_same q (e ∷ es) =
      ap (λ ss. map spoken_of (route_news t c p d q e) ++ ss) (news_same q es)
      ∙ sym (map-append spoken_of (route_news t c p d q e) (flat_map (route_news t c p d q) es))

  spoken_same : (q : Peerings) (done : Step) → spoken_in t [] c (talks_of p) d (talks_of q) done ≡ map spoken_of (told_in t c p d q done)
  spoken_same q done =
      ap (λ ss. answers t [] d (talks_of p) (talks_of q) done ++ ss)
      (append-nil (flat_map (edge_news t c (talks_of p) d (talks_of q)) (edges t)) ∙ news_same q (edges t))
      ∙ ap (λ ss. ss ++ map spoken_of (flat_map (route_news t c p d q) (edges t))) (answers_same (talks_of q) done)
      ∙ sym (map-append spoken_of (bgp_replies t d p done) (flat_map (route_news t c p d q) (edges t)))

told_same : (q : Peerings) (tolds : List Told) → with_spoken (talks_of q) (map spoken_of tolds) ≡ talks_of (with_told q tolds)
told_same q tolds =
    ap (λ (f : ℕ → ℕ → List Word). record { told = f; heard = q.heard })
    (fun_ext (λ n. fun_ext (λ p.
    ap (λ ws. map word_of (q.told n p) ++ ws) (words_spoken n p tolds) ∙ sym (map-append word_of (q.told n p) (tellings_of n p tolds)))))

-- 4. A step, and a journal

module _ (t : Network) (c : Config) (p : Peerings) where
  tells : (done : Step) → with_spoken (counted (talks_of p) done) (spoken_in t [] c (talks_of p) (config_after c done) (counted (talks_of p) done) done)
      ≡ talks_of (told_all t c (config_after c done) p done)
  tells done =
      ap (λ (q : Talks). with_spoken q (spoken_in t [] c (talks_of p) (config_after c done) q done)) (counted_same p done)
      ∙ ap (with_spoken (talks_of (bgp_counted p done))) (spoken_same t c (config_after c done) p (bgp_counted p done) done)
      ∙ told_same (bgp_counted p done) (told_in t c p (config_after c done) (bgp_counted p done) done)

  step_same : (done : Step) → talks_after t [] c (talks_of p) done ≡ talks_of (peerings_after t c (config_after c done) p done)
  unfolding peerings_after
  step_same (step.BgpUp a b) = tells (step.BgpUp a b)
  step_same (step.BgpDown a b) = tells (step.BgpDown a b)
  step_same (step.HearBgp a b) = tells (step.HearBgp a b)
  step_same (step.AddRoute s prefix) = tells (step.AddRoute s prefix)
  step_same (step.DelRoute s prefix) = tells (step.DelRoute s prefix)
  step_same (step.Import v on target) = tells (step.Import v on target)
  step_same (step.Export v on target) = tells (step.Export v on target)
  step_same (step.Attach s) = tells (step.Attach s)
  step_same (step.Detach s) = tells (step.Detach s)
  step_same (step.LinkUp l) = refl
  step_same (step.LinkDown l) = refl
  step_same (step.Learn node l) = refl
  step_same (step.LdpAdmin l on) = refl
  step_same (step.HearLdp l dir) = refl
  step_same (step.Inject s number) = refl
  step_same (step.Carry l dir place) = refl
  step_same (step.Lose l dir place) = refl
  step_same (step.Tick ticks) = refl

from_same : (t : Network) (w : World) (entries : List JournalEntry) →
    talks_from t [] w.config (talks_of w.peerings) (steps_of entries) ≡ talks_of (world_from t w entries).peerings
from_same t w [] = refl
from_same t w (entry ∷ entries) =
    ap (λ (q : Talks). talks_from t [] (config_after w.config entry.step) q (steps_of entries)) (step_same t w.config w.peerings entry.step)
    ∙ from_same t (after t w entry.step) entries

held_same : (t : Network) (c : Config) (p : Peerings) (edge v : ℕ) → held t [] c (talks_of p) edge v ≡ mesh.held t c p edge v
unfolding held mesh.held
held_same t c p edge v =
    ap (λ (q : Peerings). own_routes t c edge v ++ (near_routes t c edge v ++ flat_map (far_routes t c q edge v)
    (filter (λ peer. not (peer == edge)) (edges t))))
    (peerings_back p)

pub is_the_full_mesh : (t : Network) (entries : List JournalEntry) → IsTheFullMesh t entries
is_the_full_mesh t entries = record {
  talks = same;
  holds = λ edge v. ap (λ (q : Talks). held t [] (world_of t entries).config q edge v) same
      ∙ held_same t (world_of t entries).config (world_of t entries).peerings edge v;
}
  where
    same : talks_from t [] (first_config t) no_talks (steps_of entries) ≡ talks_of (world_of t entries).peerings
    same = from_same t (start t) entries
