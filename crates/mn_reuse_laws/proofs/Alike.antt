-- What a node keeps before a step has the same labels after it.
use Rattle.std.proofs.Common.{ℕ, zero, suc, ◌≡◌, ◌≢◌, ◌+◌, ◌<◌, inl, inr, Bool, true, false, List, [], ◌∷◌, ◌++◌, length, refl, arith, sym, ◌∙◌, ap}
use Rattle.std.proofs.Common.{Option, Some, None}
use Rattle.std.specs.Prelude.{◌&&◌, if◌then◌else◌, map, option_map, unwrap_or, take}
use Rattle.std.specs.List.{range_with_len}
use Rattle.std.proofs.lemmas.Bool.Decides.{eqb_tells}
use Rattle.mn_wiring.specs.Wiring.{Wiring, is_end, across, nodes_of}
use Rattle.mn_base.proofs.Bools.{and_right}
use Rattle.mn_node.specs.Ldp.{Message, is_mapped}
use Rattle.mn_node.specs.Node.{Session, Node, label_of}
use Rattle.mn_topo.specs.Network.{Network, wiring_of}
use Rattle.mn_topo.specs.Lawful.{IsLawful}
use Rattle.mn_topo.specs.declared.steps.JournalEntry.{JournalEntry}
use Rattle.mn_ledger.specs.World.{World}
use Rattle.mn_ledger.specs.Transport.{lives, ldp_state_of, heard_by}
use Rattle.mn_ledger.specs.Ledger.{world_of}
use Rattle.mn_ledger.specs.Lawful.{IsLawfulJournal}
use Rattle.mn_ledger.proofs.Turning.{across-end}
use Rattle.mn_settled_laws.proofs.Offering.{ends_below}
use Rattle.mn_topo.specs.Steps.{fits}
use Rattle.mn_ledger.specs.Ledger.{after, packets_of}
use Rattle.mn_ledger.specs.Refusal.{refusal_at}
use Rattle.mn_ledger.proofs.Refusals.{free}
use Rattle.mn_ledger.proofs.InTurn.{in_turn}
use Rattle.mn_node.specs.Machine.{Event, after_any, said_any}
use Rattle.mn_slice_laws.specs.Slice.{label_heard, session_of, node_at, event_of}
use Rattle.mn_slice_laws.specs.Steps.{node_then}
use Rattle.mn_slice_laws.proofs.Nodes.{by_nodes}
use Rattle.mn_reuse_laws.proofs.Relabelling.{goes_alike}
use Rattle.mn_reuse_laws.specs.Answers.{heard_from}
use Rattle.mn_labels.specs.Labels.{label_now}
use Rattle.mn_reuse_laws.specs.Labels.{labels_of}
use Rattle.mn_reuse_laws.specs.Relabelled.{Labelling, relabelled_from, session_with, sessions_with, node_with, labels_at, event_with, event_then}
use Rattle.mn_reuse_laws.specs.Relabelled.{IsRelabelledAlike, GoesWithItsLabels}
use Rattle.mn_reuse_laws.specs.Laws.{StaysLabelled}
use Rattle.mn_reuse_laws.proofs.Keeping.{keeps_what_is_said}

-- where a FEC is mapped both have the same label for it
cons_alike : (g h : ℕ → ℕ) (a v : ℕ) (b : Bool) (xs : List (Option ℕ)) → (b ≡ true → g a ≡ h a) → relabelled_from g (a + 1) xs ≡ relabelled_from h (a + 1) xs
    → relabelled_from g a ((if b then Some v else None) ∷ xs) ≡ relabelled_from h a ((if b then Some v else None) ∷ xs)
cons_alike g h a v true xs same rest = ap (λ z. Some z ∷ relabelled_from g (a + 1) xs) (same refl) ∙ ap (λ ys. Some (h a) ∷ ys) rest
cons_alike g h a v false xs same rest = ap (λ ys. None ∷ ys) rest

labels_alike : (g h : ℕ → ℕ) (far : ℕ) (ms : List Message) (a n : ℕ) → ((p : ℕ) → p < a + n → is_mapped false p ms ≡ true → g p ≡ h p)
    → relabelled_from g a (map (label_heard far ms) (range_with_len a n)) ≡ relabelled_from h a (map (label_heard far ms) (range_with_len a n))
labels_alike g h far ms a zero same = refl
labels_alike g h far ms a (suc n) same =
    cons_alike g h a (label_of far a) (is_mapped false a ms) (map (label_heard far ms) (range_with_len (a + 1) n)) (same a (omega arith))
    (labels_alike g h far ms (a + 1) n (λ p below. same p (omega (arith, below))))

opt_alike : (g h : ℕ → ℕ) (b : Bool) (s : Session) → (b ≡ true → relabelled_from g 0 s.labels ≡ relabelled_from h 0 s.labels)
    → option_map (session_with g) (if b then Some s else None) ≡ option_map (session_with h) (if b then Some s else None)
opt_alike g h true s same = ap (λ (ls : List (Option ℕ)). Some (record s { labels = ls })) (same refl)
opt_alike g h false s same = refl

sessions_alike : (w : Wiring) (g h : Labelling) (n : ℕ) (f : ℕ → Option Session) (a m : ℕ)
    → ((l : ℕ) → l < a + m → option_map (session_with (g (across w l n))) (f l) ≡ option_map (session_with (h (across w l n))) (f l))
    → sessions_with w g n a (map f (range_with_len a m)) ≡ sessions_with w h n a (map f (range_with_len a m))
sessions_alike w g h n f a zero same = refl
sessions_alike w g h n f a (suc m) same =
    ap (λ x. x ∷ sessions_with w g n (a + 1) (map f (range_with_len (a + 1) m))) (same a (omega arith))
    ∙ ap (λ xs. option_map (session_with (h (across w a n))) (f a) ∷ xs) (sessions_alike w g h n f (a + 1) m (λ l below. same l (omega (arith, below))))

heard_other : (t : Network) (w : World) (l n : ℕ) → across (wiring_of t) l (across (wiring_of t) l n) ≡ n
    → heard_from t w l (across (wiring_of t) l n) ≡ heard_by (wiring_of t) w.sessions l n
heard_other t w l n e = ap (λ m. take (w.sessions.heard l m) (w.sessions.said l (across (wiring_of t) l n))) e

-- a FEC that stays labelled has the same label by both
pub stays_same : (t : Network) (es : List JournalEntry) (e : JournalEntry) (far p : ℕ) → (p ≢ far → StaysLabelled t es e far p)
    → labels_at t es far p ≡ labels_at t (es ++ e ∷ []) far p
stays_same t es e far p stays = elim (eqb_tells far p) [
  | inl x ↦ ap (λ b. if b then 3 else before) x.0 ∙ sym (ap (λ b. if b then 3 else after) x.0)
  | inr x ↦
      let one = stays (λ q. x.1 (sym q)) in
      ap (λ b. if b then 3 else before) x.0 ∙ ap (λ o. unwrap_or o 0) (one.before ∙ sym one.now) ∙ sym (ap (λ b. if b then 3 else after) x.0)
]
  where
    before : ℕ
    before = unwrap_or (label_now (labels_of t es far) p) 0

    after : ℕ
    after = unwrap_or (label_now (labels_of t (es ++ e ∷ []) far) p) 0

pub relabelled_alike : (t : Network) (es : List JournalEntry) (ps : List (List ℕ)) (e : JournalEntry) (n : ℕ) → IsLawful t → IsLawfulJournal t es ps →
    IsRelabelledAlike t es e n
relabelled_alike t es ps e n lawful journal =
    ap (λ (ss : List (Option Session)). record (node_at t w n) { sessions = ss })
    (sessions_alike (wiring_of t) (labels_at t es) (labels_at t (es ++ e ∷ [])) n (session_of t w.config w.sessions n) 0 (length t.links) at)
  where
    w : World
    w = world_of t es

    at : (l : ℕ) → l < 0 + length t.links
        → option_map (session_with (labels_at t es (across (wiring_of t) l n))) (session_of t w.config w.sessions n l)
        ≡ option_map (session_with (labels_at t (es ++ e ∷ []) (across (wiring_of t) l n))) (session_of t w.config w.sessions n l)
    at l below =
        opt_alike (labels_at t es far) (labels_at t (es ++ e ∷ []) far) (lives w.config l && is_end (wiring_of t) l n)
        (record {
          state = ldp_state_of t w.sessions l n;
          said = length (w.sessions.said l n);
          labels = map (label_heard far (heard_by (wiring_of t) w.sessions l n)) (nodes_of (wiring_of t));
        }) (λ on. labels_alike (labels_at t es far) (labels_at t (es ++ e ∷ []) far) far (heard_by (wiring_of t) w.sessions l n) 0 (length t.loopbacks)
        (λ p inside mapped. stays_same t es e far p (λ apart. kept on p inside mapped apart)))
      where
        far : ℕ
        far = across (wiring_of t) l n

        kept : (lives w.config l && is_end (wiring_of t) l n) ≡ true → (p : ℕ) → p < 0 + length t.loopbacks
            → is_mapped false p (heard_by (wiring_of t) w.sessions l n) ≡ true → p ≢ far → StaysLabelled t es e far p
        kept on p inside mapped apart =
            let inner : l < length t.links = omega (arith, below) in
            let end = and_right (lives w.config l) (is_end (wiring_of t) l n) on in
            let other = across-end (wiring_of t) l n (lawful.ends_differ l inner) end in
            (keeps_what_is_said t es ps e far p l lawful journal (ends_below t lawful.joins_nodes l far inner other.0)
            (omega (arith, inside)) apart inner other.0).kept
            (ap (is_mapped false p) (heard_other t w l n other.1) ∙ mapped)

any_after : (w : Wiring) (g : Labelling) (node : Node) (o : Option Event)
    → after_any w (node_with w g node) (option_map (event_with w g node.me) o) ≡ node_with w g (after_any w node o)
any_after w g node None = refl
any_after w g node (Some event) = (goes_alike w g node event).then_is

any_said : (w : Wiring) (g : Labelling) (node : Node) (o : Option Event)
    → said_any w (node_with w g node) (option_map (event_with w g node.me) o) ≡ said_any w node o
any_said w g node None = refl
any_said w g node (Some event) = (goes_alike w g node event).says

pub goes_with_its_labels : (t : Network) (es : List JournalEntry) (ps : List (List ℕ)) (e : JournalEntry) (count : ℕ) (bytes : List ℕ) (n : ℕ)
    → IsLawful t → IsLawfulJournal t es ps → fits t e.step ≡ true → refusal_at t (world_of t es) (packets_of t es ps) count e.step bytes ≡ None →
    n < length t.loopbacks
    → GoesWithItsLabels t es e n
goes_with_its_labels t es ps e count bytes n lawful journal fit fine below = record {
  becomes = ap (λ node. after_any (wiring_of t) node (event_then t es e n)) alike
      ∙ any_after (wiring_of t) (labels_at t (es ++ e ∷ [])) (node_at t (world_of t es) n) (event_of t (world_of t es) e.step n)
      ∙ ap (node_with (wiring_of t) (labels_at t (es ++ e ∷ []))) (sym (each n below));
  says = ap (λ node. said_any (wiring_of t) node (event_then t es e n)) alike
      ∙ any_said (wiring_of t) (labels_at t (es ++ e ∷ [])) (node_at t (world_of t es) n) (event_of t (world_of t es) e.step n);
}
  where
    alike : node_with (wiring_of t) (labels_at t es) (node_at t (world_of t es) n) ≡ node_with (wiring_of t) (labels_at t (es ++ e ∷ []))
        (node_at t (world_of t es) n)
    alike = relabelled_alike t es ps e n lawful journal

    each : (node : ℕ) → node < length t.loopbacks → node_at t (after t (world_of t es) e.step) node ≡ node_then t (world_of t es) e.step node
    each =
        let may = free t (world_of t es) (packets_of t es ps) count e.step bytes fine in
        (by_nodes t (world_of t es) (packets_of t es ps) e.step lawful (in_turn t es ps lawful journal) fit may.changes may.there).each
