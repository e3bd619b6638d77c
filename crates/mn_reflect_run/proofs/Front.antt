-- A line of more than four words says what its first five words say.
use Rattle.std.proofs.Common.{◌≡◌, ◌<◌, ◌==◌, ℕ, false, List, [], ◌∷◌, length, take, Result, Ok, Err, IsErr, refl, sym, ◌∙◌, ap, subst, arith, lit<}
use Rattle.std.specs.Result.{IsErrAnd}
use Rattle.mn_topo.specs.Network.{Network}
use Rattle.mn_script.specs.declared.refusal.ScriptRule.{ScriptRule}
use Rattle.mn_script.specs.declared.refusal.ScriptBad.{ScriptBad}
use Rattle.mn_script.specs.declared.refusal.ScriptBad.TheVariants.{Refused, NoMemory}
use Rattle.mn_script.specs.Words.{line_words}
use Rattle.mn_script.specs.Reading.{number_after}
use Rattle.mn_script.specs.Steps.{route_line, target_operands, import_line, export_line, site_line}
use Rattle.mn_reflect_telling.specs.Mentions.{numbers_of}
use Rattle.mn_reflect_run.specs.Language.{Script, reflector_line, bgp_line, hear_line, step_line, do_line, bounded_drain, drain_line, show_line, command_line}
use Rattle.mn_reflect_run.specs.Language.{with_line, followed, read_from}
use Rattle.mn_reflect_run.specs.Reading.{IsRead, ReadsScript}

-- five words and more
abbrev five : (a b c d e : List ℕ) → List (List ℕ) → List (List ℕ)
five a b c d e ws = a ∷ b ∷ c ∷ d ∷ e ∷ ws

-- five words are more than four
many : (a b c d e : List ℕ) (ws : List (List ℕ)) (k : ℕ) → k < 5 → (length (five a b c d e ws) == k) ≡ false
many a b c d e ws k few = grind arith

module _ (network : Network) (a b c d e : List ℕ) (ws : List (List ℕ)) where
  abbrev long : List (List ℕ)
  long = five a b c d e ws

  abbrev short : List (List ℕ)
  short = five a b c d e []

  one : (length long == 1) ≡ false
  one = many a b c d e ws 1 (lit< tt)

  two : (length long == 2) ≡ false
  two = many a b c d e ws 2 (lit< tt)

  three : (length long == 3) ≡ false
  three = many a b c d e ws 3 (lit< tt)

  four : (length long == 4) ≡ false
  four = many a b c d e ws 4 (lit< tt)

  reflector_more : (script : Script) → reflector_line network script long ≡ reflector_line network script short
  unfolding reflector_line
  reflector_more script = rw two refl

  bgp_more : (reflectors : List ℕ) → bgp_line network reflectors long ≡ bgp_line network reflectors short
  unfolding bgp_line
  bgp_more reflectors = rw (one, four) refl

  hear_more : (reflectors : List ℕ) → hear_line network reflectors long ≡ hear_line network reflectors short
  unfolding hear_line
  hear_more reflectors = rw (one, four) refl

  route_more : route_line network long ≡ route_line network short
  unfolding route_line
  route_more = rw (one, four) refl

  target_more : target_operands network long ≡ target_operands network short
  unfolding target_operands
  target_more = rw (one, four) refl

  import_more : import_line network long ≡ import_line network short
  unfolding import_line
  import_more = rw target_more refl

  export_more : export_line network long ≡ export_line network short
  unfolding export_line
  export_more = rw target_more refl

  site_more : site_line network long ≡ site_line network short
  unfolding site_line
  site_more = rw (one, three) refl

  step_more : (reflectors : List ℕ) → step_line network reflectors long ≡ step_line network reflectors short
  unfolding step_line
  step_more reflectors = rw (bgp_more reflectors, hear_more reflectors, route_more, import_more, export_more, site_more) refl

  do_more : (reflectors : List ℕ) → do_line network reflectors long ≡ do_line network reflectors short
  unfolding do_line
  do_more reflectors = rw (step_more reflectors) refl

  bounded_more : bounded_drain long ≡ bounded_drain short
  unfolding bounded_drain
  bounded_more = rw two refl

  drain_more : drain_line long ≡ drain_line short
  unfolding drain_line
  drain_more = rw (one, bounded_more) refl

  show_more : show_line network long ≡ show_line network short
  unfolding show_line
  show_more = rw (one, three) refl

  command_more : (reflectors : List ℕ) → command_line network reflectors long ≡ command_line network reflectors short
  unfolding command_line
  command_more reflectors = rw (drain_more, show_more, do_more reflectors) refl

  line_more : (number : ℕ) (script : Script) → with_line network number long script ≡ with_line network number short script
  unfolding with_line
  line_more number script = rw (many a b c d e ws 0 (lit< tt), reflector_more script, command_more (numbers_of script.reflectors)) refl

-- six words are enough to know what a line says
pub line_by_six : (network : Network) (number : ℕ) (ws : List (List ℕ)) (script : Script) →
    with_line network number (take 6 ws) script ≡ with_line network number ws script
line_by_six network number [] script = refl
line_by_six network number (a ∷ []) script = refl
line_by_six network number (a ∷ b ∷ []) script = refl
line_by_six network number (a ∷ b ∷ c ∷ []) script = refl
line_by_six network number (a ∷ b ∷ c ∷ d ∷ []) script = refl
line_by_six network number (a ∷ b ∷ c ∷ d ∷ e ∷ ws) script = line_more network a b c d e (take 1 ws) number script
    ∙ sym (line_more network a b c d e ws number script)

-- the line of a number, and then those behind it
pub read_more : (network : Network) (number next : ℕ) (old new : Script) (line : List ℕ) (rest : List (List ℕ)) → next ≡ number_after number →
    with_line network number (line_words line) old ≡ Ok new → read_from network number old (line ∷ rest) ≡ read_from network next new rest
read_more network number next old new line rest is said =
    ap (λ r. followed number r (λ read. read_from network (number_after number) read rest)) said ∙ ap (λ n. read_from network n new rest) (sym is)

pub read_stops : (network : Network) (number : ℕ) (old : Script) (line : List ℕ) (rest : List (List ℕ)) (rule : ScriptRule) →
    with_line network number (line_words line) old ≡ Err rule → read_from network number old (line ∷ rest) ≡ Err (rule, number)
read_stops network number old line rest rule said = ap (λ r. followed number r (λ read. read_from network (number_after number) read rest)) said

-- a rule that refuses a line refuses the script
pub reads_none : (number : ℕ) (read : Result Script ScriptRule) (new : Script) (bad : ScriptBad) (r : Result Script ScriptBad)
    (all : Result Script (ScriptRule × ℕ)) →
    IsErr r × IsErrAnd r (λ y. y ≡ bad) → IsRead number read new (Err bad) → ((rule : ScriptRule) → read ≡ Err rule → all ≡ Err (rule, number)) →
    ReadsScript r all
reads_none number read new bad (Ok script) all from is stops = absurd from.1
reads_none number read new bad (Err other) all from is stops = subst (λ b. ReadsScript (Err b) all) (sym from.1) (by bad is)
  where
    by : (b : ScriptBad) → IsRead number read new (Err b) → ReadsScript (Err b) all
    by (Refused rule line) h = stops rule h.0 ∙ ap (λ n. failed (rule, n)) (sym h.1)
      where
        failed : ScriptRule × ℕ → Result Script (ScriptRule × ℕ)
        failed refused = Err refused
    by NoMemory h = tt
