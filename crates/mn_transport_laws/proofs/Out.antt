-- What a node says goes out on its links.
use Rattle.std.proofs.Common.{ℕ, ◌≡◌, ◌+◌, ◌<◌, List, [], ◌∷◌, map, length, sym, ap, subst}
use Rattle.std.specs.List.{AllByRecursion}
use Rattle.mn_wiring.specs.Wiring.{Wiring}
use Rattle.mn_node.specs.Ldp as node
use Rattle.mn_node.specs.Node.{Node, session_at}
use Rattle.mn_ldp_session.specs.Spelling.{Pdu, pdu, pdus, count_of, one_said}
use Rattle.mn_lsr.specs.Said.{pdu_of}
use Rattle.mn_lsr.specs.declared.said.Said.{Said}
use Rattle.mn_transport_laws.proofs.Own.{AllOwn}

pub links-out : (w : Wiring) (k n : Node) (own_labels : ℕ → ℕ) (wd me : ℕ) (ys : List node.Said) (xs : List Said) → AllOwn w k me ys →
    map pdu_of xs ≡ pdus w own_labels wd n ys
    → AllByRecursion (λ (said : Said). said.link.0 < length w.ends) xs
links-out w k n own_labels wd me ys [] own e = tt
links-out w k n own_labels wd me [] (x ∷ xs) own e = absurd (let no : pdu_of x ∷ map pdu_of xs ≡ [] → ⊥ = (λ q. cc) in no e)
links-out w k n own_labels wd me (y ∷ ys) (x ∷ xs) own e =
    let heads : pdu_of x ≡ pdu w y.link n.me own_labels wd (count_of (session_at n y.link) + 1) y.message = cc in
    let first : x.link.0 ≡ y.link = ap (λ (p : Pdu). p.link) heads in
    let rest : map pdu_of xs ≡ pdus w own_labels wd (one_said n y.link) ys = cc in
    (subst (λ l. l < length w.ends) (sym first) own.0.there, links-out w k (one_said n y.link) own_labels wd me ys xs own.1 rest)
