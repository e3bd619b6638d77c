-- Each drain of a script is bounded, and settles the network.
use Rattle.std.proofs.Common.{◌≡◌, ◌≤◌, ◌+◌, ◌*◌, ◌^◌, ℕ, suc, true, List, [], ◌∷◌, ◌++◌, length, length-append, sym, ◌∙◌, ap, subst, arith}
use Rattle.std.proofs.lemmas.List.Elements.{All-nil, All-cons, All-head, All-tail}
use Rattle.mn_base.specs.Limits.{most_script_lines}
use Rattle.mn_topo.specs.Lawful.{IsLawful}
use Rattle.mn_topo.specs.Network.{Network}
use Rattle.mn_script.specs.declared.command.Line.{Line}
use Rattle.mn_script.specs.Lines.{command_fits}
use Rattle.mn_script.specs.Script.{AllFit}
use Rattle.mn_ledger.proofs.Refusals.{few_entries}
use Rattle.mn_course_laws.specs.Course.{Past, inputs_of, played}
use Rattle.mn_course_laws.specs.Drains.{DrainsAll}
use Rattle.mn_course_laws.specs.Expansion.{expanded}
use Rattle.mn_course_laws.specs.Lawful.{IsLawfulRun}
use Rattle.mn_course_laws.specs.Paced.{IsPaced}
use Rattle.mn_course_laws.proofs.Draining.{drains_all}
use Rattle.mn_course_laws.proofs.Entered.{lawful_run}
use Rattle.mn_course_laws.proofs.Pace.{expanded_paced}
use Rattle.mn_run.specs.Headline.{DrainsEach}

-- over as many lines and steps as there may be, the clock comes nowhere near its end
early : (clock lines entries : ℕ) → clock ≤ 1000000 * lines + 1000 * entries → lines ≤ 3000000 → entries ≤ 4000000 → clock ≤ 2 ^ 61
early clock lines entries within few short = omega (within, few, short, arith)

abbrev IsFitting : Network → Line → Type 0
IsFitting t line = command_fits t line.command ≡ true

-- the first lines of a script that fits, fit
first_fit : (t : Network) (line : Line) (after xs : List Line) → AllFit t (xs ++ line ∷ after) → AllFit t xs
first_fit t line after [] h = All-nil (IsFitting t)
first_fit t line after (x ∷ xs) h =
    All-cons (IsFitting t) x xs (All-head (IsFitting t) x (xs ++ line ∷ after) h)
    (first_fit t line after xs (All-tail (IsFitting t) x (xs ++ line ∷ after) h))

pub each_is_drained : (t : Network) → IsLawful t → (packets : List (List ℕ)) (script : List Line) → AllFit t script → length script ≤ most_script_lines →
    DrainsEach t packets script
each_is_drained t lawful packets script fits few before after line is drain goes =
    let past : Past = (expanded t packets before).past in
    let fit : AllFit t before = first_fit t line after before (subst (AllFit t) is fits) in
    let run : IsLawfulRun t packets (expanded t packets before) = lawful_run t lawful packets before fit in
    let paced : IsPaced (1000000 * length before) (record { clock = 0; entries = [] }) past = expanded_paced t lawful packets before fit in
    let more : length script ≡ length before + suc (length after) = ap length is ∙ length-append before (line ∷ after) in
    let clock : past.clock ≤ 2 ^ 61 =
    early past.clock (length before) (length past.entries) (omega (paced.within, arith)) (omega (few, more, arith))
    (few_entries t past.entries (inputs_of packets past.entries) run.past.journal) in
    subst (λ command. DrainsAll t past (played t packets past command)) (sym drain) (drains_all t lawful packets past run.past clock)
