-- What was done before a table is shown is a lawful run.
use Rattle.std.proofs.Common.{ℕ, zero, suc, ◌≡◌, ◌≢◌, ◌<◌, inl, inr, Bool, true, false, cond, List, [], ◌∷◌, ◌++◌, length, Option, Some, None, refl, sym, ◌∙◌}
use Rattle.std.proofs.Common.{ap, subst}
use Rattle.std.specs.Prelude.{◌==◌, ◌&&◌, ◌||◌, not, nat_lt, nat_le, All}
use Rattle.std.proofs.lemmas.List.Elements.{recursion_from_All}
use Rattle.mn_base.specs.Limits.{most_steps}
use Rattle.mn_base.proofs.Bools.{no, and_left, and_right, or_ways, unlike_numbers, less_tells}
use Rattle.mn_base.proofs.Members.{In, in_append, all_in}
use Rattle.mn_topo.specs.Network.{Network}
use Rattle.mn_topo.specs.Lawful.{IsLawful}
use Rattle.mn_topo.specs.VrfTable.{is_edge}
use Rattle.mn_topo.specs.declared.steps.Step.{Step}
use Rattle.mn_topo.specs.declared.steps.Step.TheVariants as step
use Rattle.mn_ledger.specs.declared.refused.Refused.{Refused}
use Rattle.mn_routing_laws.proofs.Lawful.{below_of}
use Rattle.mn_reflect_ledger_laws.specs.Picks.{ReflectWorld, is_reflector}
use Rattle.mn_reflect_ledger_laws.specs.World.{start, after, world_from, world_of}
use Rattle.mn_reflect_ledger_laws.specs.Quiet.{AreReflectors, NamesNodes, AreReflected}
use Rattle.mn_reflect_ledger_laws.specs.Refusal.{refusal}
use Rattle.mn_reflect_ledger_laws.specs.Holding.{AreDoneFrom}
use Rattle.mn_reflect_world_laws.specs.Steps.{may_peer, takes, AreTaken, IsLawfulRun}
use Rattle.mn_reflect_run.specs.declared.command.ReflectCommand.{ReflectCommand}
use Rattle.mn_reflect_run.specs.declared.command.ReflectCommand.TheVariants as command
use Rattle.mn_reflect_run.specs.declared.command.ReflectLine.{ReflectLine}
use Rattle.mn_reflect_run.specs.Language.{command_fits}
use Rattle.mn_reflect_run.specs.Course.{Note, Refusal, Table, ReflectRun, first_run, stepped, tried, drained_by, drain_for, next_hearing, most_of, asked}
use Rattle.mn_reflect_run.specs.Course.{after_line, run_from, run_of}
use Rattle.mn_reflect_run.proofs.Hearings.{may_all, hearing_takes, hearing_flies}

pub in_all : {A : Type 0} (P : A → Type 0) (xs : List A) (x : A) → All P xs → In xs x → P x
in_all P xs x all i = all_in P xs x (recursion_from_All P xs all) i

-- 1. A step more

module _ (t : Network) (reflectors : List ℕ) where
  taken_more : (steps : List Step) (s : Step) → AreTaken t reflectors steps → takes t reflectors s ≡ true → AreTaken t reflectors (steps ++ s ∷ [])
  taken_more [] s h is = (is, tt)
  taken_more (first ∷ steps) s h is = (h.0, taken_more steps s h.1 is)

  done_more : (w : ReflectWorld) (steps : List Step) (s : Step) → AreDoneFrom t reflectors w steps → refusal t (world_from t reflectors w steps) s ≡ None →
      AreDoneFrom t reflectors w (steps ++ s ∷ [])
  done_more w [] s h none = (none, tt)
  done_more w (first ∷ steps) s h none = (h.0, done_more (after t reflectors w first) steps s h.1 none)

  pub run_more : (steps : List Step) (s : Step) → IsLawfulRun t reflectors steps → takes t reflectors s ≡ true →
      refusal t (world_of t reflectors steps) s ≡ None → IsLawfulRun t reflectors (steps ++ s ∷ [])
  run_more steps s run is none = record {
    topology_is = run.topology_is;
    are = run.are;
    taken = taken_more steps s run.taken is;
    done = done_more (start t) steps s run.done none;
  }

  -- the hearing of what was sent first of all is one
  pub hearing_more : (steps : List Step) (hearing : Step) → IsLawfulRun t reflectors steps → (o : Option Step) →
      o ≡ Some hearing → o ≡ next_hearing t reflectors (record first_run { steps = steps }) → IsLawfulRun t reflectors (steps ++ hearing ∷ [])
  hearing_more steps hearing run o is next =
      run_more steps hearing run (hearing_takes t reflectors (world_of t reflectors steps).flying hearing (may_all t reflectors steps run.taken).flies (sym next
      ∙ is))
      (hearing_flies t reflectors (world_of t reflectors steps) hearing (sym next ∙ is))

-- 2. The steps of a session name two nodes

module _ (t : Network) (reflectors : List ℕ) (lawful : IsLawful t) (are : AreReflectors t reflectors) where
  edge_below : (node : ℕ) → is_edge t.vrfs node ≡ true → node < length t.loopbacks
  edge_below node h = below_of (length t.loopbacks) node t.vrfs lawful.vrfs.formed h

  either_below : (node : ℕ) → (is_reflector reflectors node || is_edge t.vrfs node) ≡ true → node < length t.loopbacks
  either_below node h = elim (or_ways (is_reflector reflectors node) (is_edge t.vrfs node) h) [
    | inl e ↦ are.nodes node e
    | inr e ↦ edge_below node e
  ]

  peers_there : (a b : ℕ) → may_peer t reflectors a b ≡ true → (a ≢ b) × (a < length t.loopbacks) × (b < length t.loopbacks)
  peers_there a b h =
      let first = and_left (not (a == b)) _ h in
      let ways = or_ways (is_reflector reflectors a && (is_reflector reflectors b || is_edge t.vrfs b)) (is_reflector reflectors b && is_edge t.vrfs a)
      (and_right (not (a == b)) _ h) in
      elim ways [
        | inl e ↦ (
          unlike_numbers a b first,
          are.nodes a (and_left (is_reflector reflectors a) _ e),
          either_below b (and_right (is_reflector reflectors a) (is_reflector reflectors b || is_edge t.vrfs b) e),
        )
        | inr e ↦ (
          unlike_numbers a b first,
          edge_below a (and_right (is_reflector reflectors b) (is_edge t.vrfs a) e),
          are.nodes b (and_left (is_reflector reflectors b) (is_edge t.vrfs a) e),
        )
      ]

  names_nodes : (s : Step) → takes t reflectors s ≡ true → NamesNodes t s
  names_nodes (step.BgpUp a b) h = (
    less_tells a.0 b.0 (and_right (may_peer t reflectors a.0 b.0) (nat_lt a.0 b.0) h),
    (peers_there a.0 b.0 (and_left (may_peer t reflectors a.0 b.0) (nat_lt a.0 b.0) h)).2,
  )
  names_nodes (step.BgpDown a b) h = (
    less_tells a.0 b.0 (and_right (may_peer t reflectors a.0 b.0) (nat_lt a.0 b.0) h),
    (peers_there a.0 b.0 (and_left (may_peer t reflectors a.0 b.0) (nat_lt a.0 b.0) h)).2,
  )
  names_nodes (step.HearBgp a b) h = peers_there a.0 b.0 h
  names_nodes (step.AddRoute s p) h = tt
  names_nodes (step.DelRoute s p) h = tt
  names_nodes (step.Import v on x) h = tt
  names_nodes (step.Export v on x) h = tt
  names_nodes (step.Attach s) h = tt
  names_nodes (step.Detach s) h = tt
  names_nodes _ h = absurd (no h)

  pub all_named : (steps : List Step) → AreTaken t reflectors steps → AreReflected t steps
  all_named [] h = tt
  all_named (s ∷ steps) h = (names_nodes s h.0, all_named steps h.1)

-- 3. Line by line

-- the steps are a lawful run, and so are those before each table; its VRF is there
pub record IsSound (t : Network) (reflectors : List ℕ) (run : ReflectRun) : Type 0 where
  pub lawful : IsLawfulRun t reflectors run.steps
  pub tables : (v : ℕ) (steps : List Step) → In run.notes (Table v steps) → IsLawfulRun t reflectors steps × (v < length t.vrfs)

abbrev note_is_table : Note → Bool
note_is_table (Table v steps) = true
note_is_table (Refusal line cause) = false

module _ (t : Network) (reflectors : List ℕ) where
  stepped_sound : (run : ReflectRun) (done : Step) → IsSound t reflectors run → takes t reflectors done ≡ true →
      refusal t (world_of t reflectors run.steps) done ≡ None → IsSound t reflectors (stepped run done)
  stepped_sound run done sound is none = by (nat_le most_steps (length run.steps))
    where
      by : (b : Bool) → IsSound t reflectors (cond b (record run { is_stopped = true }) (record run { steps = run.steps ++ done ∷ [] }))
      by true = record { lawful = sound.lawful; tables = sound.tables }
      by false = record { lawful = run_more t reflectors run.steps done sound.lawful is none; tables = sound.tables }

  tried_sound : (run : ReflectRun) (line : ℕ) (done : Step) → IsSound t reflectors run → takes t reflectors done ≡ true → (o : Option Refused) →
      refusal t (world_of t reflectors run.steps) done ≡ o → IsSound t reflectors (tried run line done o)
  tried_sound run line done sound is None e = stepped_sound run done sound is e
  tried_sound run line done sound is (Some why) e = record {
    lawful = sound.lawful;
    tables = λ v steps i. elim (in_append run.notes (Refusal line why ∷ []) (Table v steps) i) [
      | inl j ↦ sound.tables v steps j
      | inr j ↦ elim j [ inl q ↦ absurd (no (ap note_is_table q)) | inr k ↦ absurd k ]
    ];
  }

  drained_sound : (run : ReflectRun) (on : ReflectRun → ReflectRun) → IsSound t reflectors run →
      ((r : ReflectRun) → IsSound t reflectors r → IsSound t reflectors (on r)) →
      (o : Option Step) → next_hearing t reflectors run ≡ o → IsSound t reflectors (drained_by on run o)
  drained_sound run on sound f None e = sound
  drained_sound run on sound f (Some hearing) e =
      by (stepped run hearing)
      (stepped_sound run hearing sound
      (hearing_takes t reflectors (world_of t reflectors run.steps).flying hearing (may_all t reflectors run.steps sound.lawful.taken).flies e)
      (hearing_flies t reflectors (world_of t reflectors run.steps) hearing e)) (stepped run hearing).is_stopped
    where
      by : (r : ReflectRun) → IsSound t reflectors r → (b : Bool) → IsSound t reflectors (cond b r (on r))
      by r s true = s
      by r s false = f r s

  drain_sound : (count : ℕ) (run : ReflectRun) → IsSound t reflectors run → IsSound t reflectors (drain_for count t reflectors run)
  drain_sound zero run sound = sound
  drain_sound (suc count) run sound =
      drained_sound run (λ later. drain_for count t reflectors later) sound (λ r s. drain_sound count r s) (next_hearing t reflectors run) refl

  asked_sound : (run : ReflectRun) (number : ℕ) (wanted : ReflectCommand) → IsSound t reflectors run → command_fits t reflectors wanted ≡ true →
      IsSound t reflectors (asked t reflectors run number wanted)
  asked_sound run number (command.Do done) sound fits =
      tried_sound run number done sound fits (refusal t (world_of t reflectors run.steps) done) refl
  asked_sound run number (command.Drain most) sound fits = drain_sound (most_of most) run sound
  asked_sound run number (command.Show vrf) sound fits = record {
    lawful = sound.lawful;
    tables = λ v steps i. elim (in_append run.notes (Table vrf.0 run.steps ∷ []) (Table v steps) i) [
      | inl j ↦ sound.tables v steps j
      | inr j ↦ elim j [
        | inl q ↦ (
          subst (IsLawfulRun t reflectors) (ap (steps_in run.steps) q) sound.lawful,
          subst (λ n. n < length t.vrfs) (ap vrf_in q) (less_tells vrf.0 (length t.vrfs) fits),
        )
        | inr k ↦ absurd k
      ]
    ];
  }
    where
      steps_in : List Step → Note → List Step
      steps_in other (Table v steps) = steps
      steps_in other (Refusal line cause) = other

      vrf_in : Note → ℕ
      vrf_in (Table v steps) = v
      vrf_in (Refusal line cause) = 0

  lines_sound : (lines : List ReflectLine) (run : ReflectRun) → IsSound t reflectors run →
      ((line : ReflectLine) → In lines line → command_fits t reflectors line.command ≡ true) → IsSound t reflectors (run_from t reflectors run lines)
  lines_sound [] run sound fits = sound
  lines_sound (line ∷ lines) run sound fits =
      by (after_line t reflectors run line) (asked_sound run line.number line.command sound (fits line (inl refl)))
      (λ r s. lines_sound lines r s (λ other i. fits other (inr i))) (after_line t reflectors run line).is_stopped
    where
      by : (r : ReflectRun) → IsSound t reflectors r → ((x : ReflectRun) → IsSound t reflectors x → IsSound t reflectors (run_from t reflectors x lines)) →
          (b : Bool) → IsSound t reflectors (cond b r (run_from t reflectors r lines))
      by r s rest true = s
      by r s rest false = rest r s

  pub course_sound : (lines : List ReflectLine) → IsLawful t → AreReflectors t reflectors →
      ((line : ReflectLine) → In lines line → command_fits t reflectors line.command ≡ true) → IsSound t reflectors (run_of t reflectors lines)
  course_sound lines lawful are fits =
      lines_sound lines first_run (record { lawful = record { topology_is = lawful; are = are; taken = tt; done = tt }; tables = λ v steps i. absurd i }) fits
