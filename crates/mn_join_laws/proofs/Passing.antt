-- What crosses several networks.
use Rattle.std.proofs.Common.{ℕ, ◌≡◌, ◌<◌, ◌≤◌, ◌+◌, ◌*◌, List, [], ◌∷◌, length, slice_index, IsTrue, refl, arith, sym, ◌∙◌, ap, subst}
use Rattle.mn_ipv4.specs.Header.{ttl_of, total_length, good}
use Rattle.mn_ipv4.proofs.Laws.{IsGood, IsGood-from_good}
use Rattle.mn_ledger_laws.specs.Accounts.{IsPassedOn}
use Rattle.mn_join_laws.specs.Crossing.{Passage, Crosses, CrossesAll, nodes_of, all_nodes, ItCrosses}
use Rattle.mn_topo.specs.Lawful.{IsLawful}
use Rattle.mn_ledger.specs.Held.{HeldRoute}
use Rattle.mn_ledger.specs.Lawful.{IsLawfulJournal}
use Rattle.mn_ledger.specs.Verdicts.{injections}
use Rattle.mn_ledger_laws.specs.Accounts.{IsFate}
use Rattle.mn_ledger_laws.proofs.Accounted.{accounts}
use Rattle.mn_arrival_laws.proofs.Arriving.{it_arrives}

-- one passing on after another is one
pub passed_twice : (sent between arrived : List ℕ) (ttl last : ℕ) → IsTrue (good sent) → ((i : ℕ) → slice_index between i < 256) →
    IsPassedOn sent ttl between → IsPassedOn between last arrived → IsPassedOn sent last arrived
passed_twice sent between arrived ttl last fine bytes one two = record {
  cut = two.cut ∙ same_total;
  ttl_is = two.ttl_is;
  others = λ i a b c h. two.others i a b c (omega (arith, h, same_total)) ∙ one.others i a b c h;
  still_good = λ h. two.still_good bytes;
}
  where
    enough : 20 ≤ total_length sent
    enough = let g : IsGood sent = IsGood-from_good sent fine in omega (arith, g.least_header, g.header_in_total)

    high : slice_index between 2 ≡ slice_index sent 2
    high = one.others 2 (λ e. apart 2 8 (omega arith) e) (λ e. apart 2 10 (omega arith) e) (λ e. apart 2 11 (omega arith) e) (omega (arith, enough))
      where
        apart : (m n : ℕ) → m < n → m ≡ n → ⊥
        apart m n h e = omega (arith, h, e)

    low : slice_index between 3 ≡ slice_index sent 3
    low = one.others 3 (λ e. apart 3 8 (omega arith) e) (λ e. apart 3 10 (omega arith) e) (λ e. apart 3 11 (omega arith) e) (omega (arith, enough))
      where
        apart : (m n : ℕ) → m < n → m ≡ n → ⊥
        apart m n h e = omega (arith, h, e)

    same_total : total_length between ≡ total_length sent
    same_total = ap (λ n. 256 * n + slice_index between 3) high ∙ ap (λ n. 256 * slice_index sent 2 + n) low

lowered_by : (passage : Passage) (ttl : ℕ) (arrived : List ℕ) → Crosses passage ttl arrived → ttl + nodes_of passage ≡ ttl_of passage.sending.bytes
lowered_by passage ttl arrived c = c.arrival.lowered

arrives_as : (passage : Passage) (ttl : ℕ) (arrived : List ℕ) → Crosses passage ttl arrived → IsPassedOn passage.sending.bytes ttl arrived
arrives_as passage ttl arrived c = subst (IsPassedOn passage.sending.bytes ttl) c.bytes c.arrival.passed_on

pub all_lowered : (bytes last : List ℕ) (passages : List Passage) (ttl : ℕ) → CrossesAll bytes passages ttl last → ttl + all_nodes passages ≡ ttl_of bytes
all_lowered bytes last [] ttl h = omega (arith, h.0)
all_lowered bytes last (passage ∷ passages) ttl h = omega (
  arith,
  all_lowered h.2 last passages ttl h.4,
  lowered_by passage h.1 h.2 h.3,
  ap ttl_of h.0,
  (arrives_as passage h.1 h.2 h.3).ttl_is,
)

pub all_passed : (bytes last : List ℕ) (passage : Passage) (passages : List Passage) (ttl : ℕ) → CrossesAll bytes (passage ∷ passages) ttl last →
    IsPassedOn bytes ttl last
all_passed bytes last passage [] ttl h =
    subst (λ b. IsPassedOn b ttl last) h.0
    (subst (IsPassedOn passage.sending.bytes ttl) (sym h.4.1)
    (subst (λ t. IsPassedOn passage.sending.bytes t h.2) (sym (arrives_as passage h.1 h.2 h.3).ttl_is ∙ sym h.4.0) (arrives_as passage h.1 h.2 h.3)))
all_passed bytes last passage (next ∷ passages) ttl h =
    subst (λ b. IsPassedOn b ttl last) h.0
    (passed_twice passage.sending.bytes h.2 last h.1 ttl h.3.arrival.bound.is_good
    (subst (λ b. (i : ℕ) → slice_index b i < 256) h.4.0 h.4.3.sent_bytes)
    (arrives_as passage h.1 h.2 h.3) (all_passed h.2 last next passages ttl h.4))

-- the TTL with which it leaves is that of the last bytes
ttl_left : (bytes last : List ℕ) (passages : List Passage) (ttl : ℕ) → CrossesAll bytes passages ttl last → ttl_of last ≡ ttl
ttl_left bytes last [] ttl h = ap ttl_of h.1 ∙ sym h.0
ttl_left bytes last (passage ∷ passages) ttl h = ttl_left h.2 last passages ttl h.4

pub lives_on : (bytes last : List ℕ) (passages : List Passage) (ttl rest : ℕ) → CrossesAll bytes passages ttl last →
    1 + all_nodes passages + rest ≤ ttl_of bytes → 1 + rest ≤ ttl_of last
lives_on bytes last passages ttl rest h enough = omega (arith, enough, all_lowered bytes last passages ttl h, ttl_left bytes last passages ttl h)

pub it_crosses : (passage : Passage) (from to : ℕ) (route : HeldRoute) → IsLawful passage.topology →
    IsLawfulJournal passage.topology passage.entries passage.inputs →
    length passage.inputs ≡ injections passage.entries → ItCrosses passage from to route
it_crosses passage from to route lawful journal counted steady way bytes =
    let reached = it_arrives passage.topology passage.entries passage.inputs lawful journal passage.sending from to route steady way in
    let account = (accounts passage.topology passage.entries passage.inputs lawful journal counted).accounted passage.sending steady.sent in
    let fate = subst (IsFate passage.topology passage.entries passage.inputs passage.sending) reached.arrived.verdict account.fate in
    (_, fate.arrived, record { site = _; copy = reached.arrived.copy; arrival = fate; bytes = refl; sent_bytes = bytes }, ap length reached.arrived.path)
