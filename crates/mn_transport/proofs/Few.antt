-- A node says little in a step, so that the numbers of items fit in 64 bits.
use Rattle.std.proofs.Common.{ℕ, suc, ◌≡◌, ◌∙◌, ◌+◌, ◌≤◌, List, [], ◌∷◌, ◌++◌, length, refl, arith, ap, subst, length-append, Bool, true, false, Option, Some}
use Rattle.std.proofs.Common.{None, map, get_or}
use Rattle.std.specs.Prelude.{if◌then◌else◌, Ok}
use Rattle.mn_wiring.specs.Wiring.{Wiring, receiver}
use Rattle.mn_wiring.specs.declared.links.Dir.{Dir}
use Rattle.mn_topo.specs.Network.{Network, wiring_of}
use Rattle.mn_topo.specs.Lawful.{IsLawful}
use Rattle.mn_node.specs.Ldp.{Message, Initialization, Said, said_on, answer, news}
use Rattle.mn_node.specs.Node.{Session, Node, session_at, knowledge_in}
use Rattle.mn_node.specs.Machine.{Event, Learns, Opens, Closes, Hears, answer_in, answers, said, changed, speaks_first}
use Rattle.mn_ldp_session.specs.Spelling.{pdus, one_said}
use Rattle.mn_labels.specs.Labels.{Labels, own_labels}
use Rattle.mn_ledger_laws.proofs.Steps.{few_answers, few_news}
use Rattle.mn_lsr.specs.Turns.{Kept}
use Rattle.mn_lsr.specs.Turns.{kept_in, labels_then}
use Rattle.mn_lsr.specs.Said.{pdu_of}
use Rattle.mn_lsr.specs.Standing.{Standing, HasNumbers}
use Rattle.mn_lsr.specs.declared.said.Said.{Said as Spoken}
use Rattle.mn_transport_laws.proofs.Acted.{acted, same, hearer}
use Rattle.mn_transport_laws.specs.Carried.{Carried}
use Rattle.mn_transport_laws.specs.Sending.{pdus_in, put_pdus, released_by}
use Rattle.mn_transport_laws.specs.Acting.{MayAct, MayHear, Becomes, Acts}

as_many : (w : Wiring) (own : ℕ → ℕ) (label : ℕ) (n : Node) (xs : List Said) → length (pdus w own label n xs) ≡ length xs
as_many w own label n [] = refl
as_many w own label n (x ∷ xs) = ap suc (as_many w own label (one_said n x.link) xs)

said_length : (l n : ℕ) (ms : List Message) → length (said_on l n ms) ≡ length ms
said_length l n [] = refl
said_length l n (m ∷ ms) = ap suc (said_length l n ms)

two_answers : (o : Option Session) (message : Message) → length (answer_in o message) ≤ 2
two_answers None message = omega arith
two_answers (Some session) message = few_answers session.state message

answers_few : (w : Wiring) (n : Node) (event : Event) → length (answers w n event) ≤ 2
answers_few w n (Learns l) = omega arith
answers_few w n (Closes l) = omega arith
answers_few w n (Opens l) = either (speaks_first w l n.me)
  where
    either : (b : Bool) → length (if b then said_on l n.me (Initialization ∷ []) else []) ≤ 2
    either true = omega arith
    either false = omega arith
answers_few w n (Hears l message label) =
    omega (arith, said_length l n.me (answer_in (session_at n l) message), two_answers (session_at n l) message)

few_pdus : (w : Wiring) (tick : ℕ) (kept : Kept) (event : Event) → length w.ends ≤ 1024 → length w.loopbacks ≤ 256 →
    length (pdus_in w tick kept event) ≤ 67108866
few_pdus w tick kept event links nodes =
    let n : Node = kept.node in
    let first : List Said = answers w n event in
    let rest : List Said = news w (knowledge_in n) (knowledge_in (changed w n event)) n.me in
    both (length first) (length rest) (length (first ++ rest)) (length (pdus_in w tick kept event))
    (as_many w (own_labels n.me (labels_then w tick kept event)) (released_by event) (changed w n event) (first ++ rest))
    (length-append first rest) (answers_few w n event) (few_news w (knowledge_in n) (knowledge_in (changed w n event)) n.me links nodes)
  where
    both : (a b c d : ℕ) → d ≡ c → c ≡ a + b → a ≤ 2 → b ≤ 67108864 → d ≤ 67108866
    both a b c d e f g h = omega (arith, e, f, g, h)

-- so many numbers at most are taken by what a node says
pub few_acted : (t : Network) (tick number node : ℕ) (event : Event) (old new : Carried) (next : ℕ) → IsLawful t →
    Acts t tick number node event old new next → next ≤ number + 67108866
few_acted t tick number node event old new next lawful acts =
    let some : length (pdus_in (wiring_of t) tick (kept_in acts.was) event) ≤ 67108866 =
    few_pdus (wiring_of t) tick (kept_in acts.was) event lawful.few_links lawful.few_nodes in
    omega (arith, acts.next_is, some)

-- what the node at this index says
pub few_out : (t : Network) (old seen : Carried) (view_is : old ≡ seen) (node : ℕ) (event : Event) (may : MayAct t seen node event)
    (index : ℕ) (at : index ≡ node) (was : Standing) (value : was ≡ get_or old.nodes index was) (tick : ℕ) (now : Standing) (out : List Spoken) → IsLawful t →
    Becomes tick event was now → map pdu_of out ≡ pdus_in was.wiring tick (kept_in was) event → length out ≤ 67108866
few_out t old seen view_is node event may index at was value tick now out lawful becomes says =
    let acts = acted t old seen view_is node event may index at was value {E = ℕ} tick 0 now out
    (old.messages ++ put_pdus (wiring_of t) node tick 0 (map pdu_of out)) (Ok (length out)) becomes says refl (omega arith) in
    omega (arith, few_acted t tick 0 node event seen _ (length out) lawful acts)

-- in the labels that its FECs have then
pub said_in : (tick : ℕ) (event : Event) (was now : Standing) (out : List Spoken) → now.labels ≡ labels_then was.wiring tick (kept_in was) event →
    map pdu_of out ≡ pdus was.wiring (own_labels was.node.me now.labels) (released_by event) (changed was.wiring was.node event)
    (said was.wiring was.node event) →
    map pdu_of out ≡ pdus_in was.wiring tick (kept_in was) event
said_in tick event was now out labels says =
    says
    ∙ ap (λ (ls : Labels). pdus was.wiring (own_labels was.node.me ls) (released_by event) (changed was.wiring was.node event) (said was.wiring was.node event))
    labels

-- a node to which something may happen has numbers for what it says then
pub has_numbers : (t : Network) (old seen : Carried) (view_is : old ≡ seen) (node : ℕ) (event : Event) (may : MayAct t seen node event)
    (index : ℕ) (at : index ≡ node) (was : Standing) → was ≡ get_or old.nodes index was → HasNumbers was.node
has_numbers t old seen view_is node event may index at was value =
    subst (λ (x : Standing). HasNumbers x.node) (same t old seen view_is node event may index at was value) may.numbers

pub hearer_has_numbers : (t : Network) (old seen : Carried) (view_is : old ≡ seen) (l : ℕ) (dir : Dir) (event : Event) (may : MayHear t seen l dir event)
    (index : ℕ) (at : index ≡ receiver (wiring_of t) l dir) (was : Standing) → was ≡ get_or old.nodes index was → HasNumbers was.node
hearer_has_numbers t old seen view_is l dir event may index at was value =
    subst (λ (x : Standing). HasNumbers x.node) (hearer t old seen view_is l dir event may index at was value) may.may.numbers
