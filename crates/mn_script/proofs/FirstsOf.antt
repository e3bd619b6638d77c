-- The first refused line, and the commands of all lines.
use Rattle.std.proofs.Common.{◌≡◌, ◌<◌, ◌+◌, ℕ, suc, zero, true, false, List, [], ◌∷◌, length, get_or, refl, ap, sym, ◌∙◌, arith}
use Rattle.std.specs.Prelude.{Option, Some, None, Result, Ok, Err, is_ok}
use Rattle.std.specs.List.{filter_map, enumerate_from}
use Rattle.std.specs.Str.Lines.{lines}
use Rattle.std.proofs.lemmas.List.{length-map}
use Rattle.mn_topo.specs.Network.{Network}
use Rattle.mn_script.specs.declared.refusal.ScriptRule.{ScriptRule}
use Rattle.mn_script.specs.declared.command.Command.{Command}
use Rattle.mn_script.specs.declared.command.Line.{Line}
use Rattle.mn_script.specs.Rules.{◌>>=◌}
use Rattle.mn_script.specs.Words.{line_words}
use Rattle.mn_script.specs.Lines.{line_says}
use Rattle.mn_script.specs.Reading.{number_after, line_of, before, begun_by, gathered}
use Rattle.mn_script.specs.Script.{numbered, command_says, script_of}
use Rattle.mn_script.specs.Firsts.{all_say, number_at, IsFirstRefused, AllAreRead, command_at, commands_in}

-- the commands that are said, from the line of this number on, or the first rule with its line
abbrev collected : ℕ → List (Result (Option Command) ScriptRule) → Result (List Line) (ScriptRule × ℕ)
collected number [] = Ok []
collected number (Err rule ∷ said) = Err (rule, number)
collected number (Ok command ∷ said) = before (line_of (numbered number command)) (collected (number_after number) said)

as_said : (number : ℕ) (first : Result (Option Command) ScriptRule) (said : List (Result (Option Command) ScriptRule)) →
    begun_by number (first >>= (λ command. Ok (numbered number command))) (collected (number_after number) said) ≡ collected number (first ∷ said)
as_said number (Ok command) said = refl
as_said number (Err rule) said = refl

-- lines are read as what they say is collected
as_collected : (network : Network) (number : ℕ) (texts : List (List ℕ)) →
    gathered (command_says network) number texts ≡ collected number (all_say network texts)
as_collected network number [] = refl
as_collected network number (text ∷ more) =
    ap (begun_by number (command_says network number (line_words text))) (as_collected network (number_after number) more)
    ∙ as_said number (line_says network (line_words text)) (all_say network more)

next_number : (i : ℕ) → number_after (number_at i) ≡ number_at (i + 1)
next_number i = omega arith

-- what the lines that are left to say give, after a line that is read
collected_next : (i : ℕ) (command : Option Command) (said : List (Result (Option Command) ScriptRule)) →
    collected (number_at i) (Ok command ∷ said) ≡ before (line_of (numbered (number_at i) command)) (collected (number_at (i + 1)) said)
collected_next i command said = ap (λ n. before (line_of (numbered (number_at i) command)) (collected n said)) (next_number i)

refused_from : (said : List (Result (Option Command) ScriptRule)) (i k : ℕ) (rule : ScriptRule) → k < length said → get_or said k (Ok None) ≡ Err rule →
    ((j : ℕ) → j < k → is_ok (get_or said j (Ok None)) ≡ true) → collected (number_at i) said ≡ Err (rule, number_at (i + k))
refused_from [] i k rule there refused earlier = absurd (omega arith)
refused_from (Err first ∷ said) i zero rule there refused earlier = let same : first ≡ rule = cc in let place : i ≡ i + 0 = omega arith in
    ap (λ r. Err (r, number_at i)) same ∙ ap (λ n. Err (rule, number_at n)) place
refused_from (Err first ∷ said) i (suc k) rule there refused earlier = let wrong : false ≡ true = earlier 0 (omega arith) in cc
refused_from (Ok command ∷ said) i zero rule there refused earlier = cc
refused_from (Ok command ∷ said) i (suc k) rule there refused earlier =
    let rest : collected (number_at (i + 1)) said ≡ Err (rule, number_at (i + 1 + k)) =
    refused_from said (i + 1) k rule (omega arith) refused (λ j h. earlier (suc j) (omega arith)) in
    let place : i + 1 + k ≡ i + suc k = omega arith in
    collected_next i command said ∙ ap (before (line_of (numbered (number_at i) command))) rest ∙ ap (λ n. Err (rule, number_at n)) place

-- the first refused of what is said
pub record First (said : List (Result (Option Command) ScriptRule)) (i : ℕ) (rule : ScriptRule) (number : ℕ) : Type 0 where
  place : ℕ
  there : place < length said
  refused : get_or said place (Ok None) ≡ Err rule
  earlier : (j : ℕ) → j < place → is_ok (get_or said j (Ok None)) ≡ true
  numbered : number ≡ number_at (i + place)

later : (command : Option Command) (said : List (Result (Option Command) ScriptRule)) (i : ℕ) (rule : ScriptRule) (number : ℕ) →
    First said (i + 1) rule number → First (Ok command ∷ said) i rule number
later command said i rule number first = record {
  place = suc first.place;
  there = omega (arith, first.there);
  refused = first.refused;
  earlier = earlier_too command said first.place first.earlier;
  numbered = first.numbered ∙ ap number_at (omega arith);
} where
  earlier_too : (command : Option Command) (said : List (Result (Option Command) ScriptRule)) (k : ℕ) →
      ((j : ℕ) → j < k → is_ok (get_or said j (Ok None)) ≡ true) → (j : ℕ) → j < suc k → is_ok (get_or (Ok command ∷ said) j (Ok None)) ≡ true
  earlier_too command said k h zero below = refl
  earlier_too command said k h (suc j) below = h j (omega arith)

not_read : (command : Option Command) (said : List (Result (Option Command) ScriptRule)) (i : ℕ) (rule : ScriptRule) (number : ℕ)
    (rest : Result (List Line) (ScriptRule × ℕ)) → before (line_of (numbered (number_at i) command)) rest ≡ Err (rule, number) → rest ≡ Err (rule, number)
not_read command said i rule number (Ok script) h = cc
not_read command said i rule number (Err bad) h = h

first_from : (said : List (Result (Option Command) ScriptRule)) (i : ℕ) (rule : ScriptRule) (number : ℕ) →
    collected (number_at i) said ≡ Err (rule, number) → First said i rule number
first_from [] i rule number h = cc
first_from (Err first ∷ said) i rule number h =
    let pair : ◌≡◌ {A = ScriptRule × ℕ} (first, number_at i) (rule, number) = cc in
    let place : i ≡ i + 0 = omega arith in
    record {
      place = 0;
      there = omega arith;
      refused = ap (λ p. Err p.0) pair;
      earlier = λ j below. absurd (omega arith);
      numbered = sym (ap (λ p. p.1) pair) ∙ ap number_at place;
    }
first_from (Ok command ∷ said) i rule number h =
    later command said i rule number
    (first_from said (i + 1) rule number
    (not_read command said i rule number (collected (number_at (i + 1)) said) (sym (collected_next i command said) ∙ h)))

pub refused_first : (network : Network) (bytes : List ℕ) (k : ℕ) (rule : ScriptRule) → IsFirstRefused network bytes k rule →
    script_of network bytes ≡ Err (rule, number_at k)
refused_first network bytes k rule first =
    let said = all_say network (lines bytes) in
    as_collected network 1 (lines bytes)
    ∙ refused_from said 0 k rule (omega (arith, first.there, length-map (lines bytes) (λ text. line_says network (line_words text)))) first.refused
    first.earlier ∙ ap (λ n. Err (rule, number_at n)) (omega arith)

pub first_refused : (network : Network) (bytes : List ℕ) (rule : ScriptRule) (number : ℕ) → script_of network bytes ≡ Err (rule, number) →
    (k : ℕ) × (IsFirstRefused network bytes k rule × (number ≡ number_at k))
first_refused network bytes rule number h =
    let first = first_from (all_say network (lines bytes)) 0 rule number (sym (as_collected network 1 (lines bytes)) ∙ h) in (
      first.place,
      (
        record {
          there = omega (arith, first.there, length-map (lines bytes) (λ text. line_says network (line_words text)));
          refused =
              first.refused;
          earlier = first.earlier;
        },
        first.numbered ∙ ap number_at (omega arith),
      ),
    )

read_from : (said : List (Result (Option Command) ScriptRule)) (i : ℕ) →
    ((k : ℕ) → k < length said → is_ok (get_or said k (Ok None)) ≡ true) → collected (number_at i) said ≡ Ok (filter_map command_at (enumerate_from i said))
read_from [] i all = refl
read_from (Err rule ∷ said) i all = let wrong : false ≡ true = all 0 (omega arith) in cc
read_from (Ok None ∷ said) i all = collected_next i None said ∙ ap (before []) (read_from said (i + 1) (λ k h. all (suc k) (omega arith)))
read_from (Ok (Some command) ∷ said) i all =
    collected_next i (Some command) said
    ∙ ap (before (line_of (numbered (number_at i) (Some command)))) (read_from said (i + 1) (λ k h. all (suc k) (omega arith)))

-- what follows a line that is read is read where the whole is
rest_read : (front : List Line) (rest : Result (List Line) (ScriptRule × ℕ)) (script : List Line) → before front rest ≡ Ok script →
    (more : List Line) × (rest ≡ Ok more)
rest_read front (Ok more) script h = (more, refl)
rest_read front (Err bad) script h = cc

all_from : (said : List (Result (Option Command) ScriptRule)) (i : ℕ) (script : List Line) → collected (number_at i) said ≡ Ok script →
    (k : ℕ) → k < length said → is_ok (get_or said k (Ok None)) ≡ true
all_from [] i script h k below = absurd (omega arith)
all_from (Err rule ∷ said) i script h k below = cc
all_from (Ok command ∷ said) i script h zero below = refl
all_from (Ok command ∷ said) i script h (suc k) below =
    let rest = rest_read (line_of (numbered (number_at i) command)) (collected (number_at (i + 1)) said) script (sym (collected_next i command said) ∙ h) in
    all_from said (i + 1) rest.0 rest.1 k (omega arith)

pub read_whole : (network : Network) (bytes : List ℕ) → AllAreRead network bytes → script_of network bytes ≡ Ok (commands_in network bytes)
read_whole network bytes all =
    as_collected network 1 (lines bytes)
    ∙ read_from (all_say network (lines bytes)) 0 (λ k h. all k (omega (arith, h, length-map (lines bytes) (λ text. line_says network (line_words text)))))

pub all_are_read : (network : Network) (bytes : List ℕ) (script : List Line) → script_of network bytes ≡ Ok script → AllAreRead network bytes
all_are_read network bytes script h k below =
    all_from (all_say network (lines bytes)) 0 script (sym (as_collected network 1 (lines bytes))
    ∙ h) k (omega (arith, below, length-map (lines bytes) (λ text. line_says network (line_words text))))
