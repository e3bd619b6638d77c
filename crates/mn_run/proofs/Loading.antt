-- The answer, input by input.
use Rattle.std.proofs.Common.{◌≡◌, ℕ, List, Some, Result, Ok, Err, sym, ◌∙◌, ap, subst}
use Rattle.mn_run.specs.Words.{word}
use Rattle.mn_edge.specs.Files.{Files, file}
use Rattle.mn_topo.specs.Network.{Network}
use Rattle.mn_capture.specs.Packets.{packets_in}
use Rattle.mn_run.specs.declared.load.Inputs.{Inputs}
use Rattle.mn_answer.specs.declared.outcome.Outcome.{Outcome}
use Rattle.mn_run.specs.Answer.{run_done, answer_over, run_over}
use Rattle.mn_answer.specs.Inputs.{TopologyIs}
use Rattle.mn_run.specs.Jobs.{OverIs, LoadedIs, AreOver, AreRead}

-- a topology, and what was read over it
pub loaded : (t : Network) (topology script capture : List ℕ) (files : Files) (l : Result Inputs Outcome) → TopologyIs (file files topology) (Ok t) →
    OverIs t script capture files l
    → LoadedIs topology script capture files l
loaded t topology script capture files (Ok inputs) read over = record {
  over = subst (λ x. AreOver x script capture files inputs) (sym over.over) over;
  topology_read = read.0 ∙ ap (λ x. Some (Ok x)) (sym over.over);
  answer = λ folder. read.1 (answer_over folder files script capture) ∙ ap (answer_over folder files script capture) (sym over.over);
}
loaded t topology script capture files (Err outcome) read over = λ folder. read.1 (answer_over folder files script capture) ∙ over folder

-- the answer over inputs that were read
pub answer_is : (topology script capture : List ℕ) (files : Files) (inputs : Inputs) (read : AreRead topology script capture files inputs) (folder : List ℕ) →
    run_over topology script capture folder files ≡ Some (run_done folder inputs.topology inputs.lines.items (packets_in inputs.capture read.over.bytes))
answer_is topology script capture files inputs read folder = read.answer folder ∙ read.over.answer folder

-- inputs that were read by the names that words give
pub loaded_by_words : (words : List (List ℕ)) (a b c : List ℕ) (m : Files) (l : Result Inputs Outcome) → word words 1 ≡ a → word words 2 ≡ b → word words 3 ≡ c
    → LoadedIs a b c m l → LoadedIs (word words 1) (word words 2) (word words 3) m l
loaded_by_words words a b c m l one two three loaded =
    subst (λ n. LoadedIs n (word words 2) (word words 3) m l) (sym one)
    (subst (λ n. LoadedIs a n (word words 3) m l) (sym two) (subst (λ n. LoadedIs a b n m l) (sym three) loaded))
