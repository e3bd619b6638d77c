-- The list of all nodes after a step.
use Rattle.std.proofs.Common.{ℕ, ◌≡◌, ◌≢◌, ◌<◌, inl, inr, true, false, List, [], ◌∷◌, length, map, refl, arith, sym, ◌∙◌, ap, Option, Some, None, replicate}
use Rattle.std.proofs.Common.{zero, suc, ◌+◌}
use Rattle.std.specs.Prelude.{◌==◌, ◌||◌, ⊤, if◌then◌else◌}
use Rattle.std.specs.List.{range_with_len}
use Rattle.std.proofs.lemmas.Bool.Decides.{eqb_tells}
use Rattle.mn_base.proofs.Bools.{other_test}
use Rattle.mn_wiring.specs.Wiring.{Wiring, links_of, link, is_end, receiver}
use Rattle.mn_topo.specs.Network.{Network, wiring_of}
use Rattle.mn_topo.specs.Lawful.{IsLawful}
use Rattle.mn_topo.specs.Steps.{fits}
use Rattle.mn_topo.specs.declared.steps.Step.{Step}
use Rattle.mn_topo.specs.declared.steps.Step.TheVariants as step
use Rattle.mn_node.specs.Node.{Session, Node}
use Rattle.mn_node.specs.Machine.{Learns, fresh_node, after_any}
use Rattle.mn_node.proofs.Lists.{map_below, map-put}
use Rattle.mn_ledger.specs.Tables.{put}
use Rattle.mn_ledger.specs.World.{World}
use Rattle.mn_ledger.specs.Packets.{Packets}
use Rattle.mn_ledger.specs.Transport.{lives}
use Rattle.mn_ledger.specs.Ledger.{config_after, after, start}
use Rattle.mn_ledger.specs.Refusal.{is_unchanged, is_empty}
use Rattle.mn_ledger.specs.Turns.{IsInTurn, HasRows}
use Rattle.mn_ledger.proofs.GoingBy.{put_here, put_off}
use Rattle.mn_ledger.proofs.InTurn.{rows}
use Rattle.mn_slice_laws.specs.Slice.{session_of, node_at, event_of, hears_next, turned, acting}
use Rattle.mn_slice_laws.specs.Steps.{node_then, with_nodes, IsByNodes}
use Rattle.mn_slice_laws.proofs.Whole.{goes, speaks, order}

abbrev pub DiffersFromAll : ℕ → List ℕ → Type 0
DiffersFromAll k [] = ⊤
DiffersFromAll k (m ∷ ms) = (k ≢ m) × DiffersFromAll k ms

with_all : (n : ℕ) (g : ℕ → Node) (ms : List ℕ) (f : ℕ → Node) →
    ((k : ℕ) → k < n → DiffersFromAll k ms → f k ≡ g k) → with_nodes g ms (map f (range_with_len 0 n)) ≡ map g (range_with_len 0 n)
with_all n g [] f h = map_below f g n 0 (λ k low below. h k (omega (arith, below)) tt)
with_all n g (m ∷ ms) f h =
    ap (with_nodes g ms) (map-put f (put f m (g m)) n m (g m) (f m) (put_here f m (g m)) (λ k below d. put_off f m (g m) k d))
    ∙ with_all n g ms (put f m (g m)) (λ k below d. elim (eqb_tells k m) [
      | inl p ↦ ap (put f m (g m)) p.1 ∙ put_here f m (g m) ∙ ap g (sym p.1)
      | inr p ↦ put_off f m (g m) k p.1 ∙ h k below (p.1, d)
    ])

pub off_end : (w : Wiring) (l k : ℕ) → k ≢ (link w l).a.0 → k ≢ (link w l).b.0 → is_end w l k ≡ false
off_end w l k d e = ap (λ b. b || ((link w l).b.0 == k)) (other_test (link w l).a.0 k (λ q. d (sym q))) ∙ other_test (link w l).b.0 k (λ q. e (sym q))

life_none : (t : Network) (w : World) (s : Step) (l k : ℕ) → k ≢ (link (wiring_of t) l).a.0 → k ≢ (link (wiring_of t) l).b.0
    → (if is_end (wiring_of t) l k then turned l (lives w.config l) (lives (config_after w.config s) l) else None) ≡ None
life_none t w s l k d e = ap (λ b. if b then turned l (lives w.config l) (lives (config_after w.config s) l) else None) (off_end (wiring_of t) l k d e)

-- nothing happens to a node that doesn't act
not_acting : (t : Network) (lawful : IsLawful t) (w : World) (packets : Packets) (turn : IsInTurn t w) (has : HasRows t w) (s : Step) (k : ℕ) →
    DiffersFromAll k (acting t s) → event_of t w s k ≡ None
not_acting t lawful w packets turn has (step.Learn n l) k d = ap (λ b. if b then Some (Learns l.0) else None) (other_test n.0 k (λ q. d.0 (sym q)))
not_acting t lawful w packets turn has (step.HearLdp l dir) k d =
    ap (λ b. if b then Some (hears_next t w l.0 k) else None) (other_test (receiver (wiring_of t) l.0 dir) k (λ q. d.0 (sym q)))
not_acting t lawful w packets turn has (step.LinkUp l) k d = life_none t w (step.LinkUp l) l.0 k d.0 d.1.0
not_acting t lawful w packets turn has (step.LinkDown l) k d = life_none t w (step.LinkDown l) l.0 k d.0 d.1.0
not_acting t lawful w packets turn has (step.LdpAdmin l on) k d = life_none t w (step.LdpAdmin l on) l.0 k d.0 d.1.0
not_acting t lawful w packets turn has _ k d = refl

pub by_nodes : (t : Network) (w : World) (packets : Packets) (s : Step) → IsLawful t → IsInTurn t w → fits t s ≡ true → is_unchanged w.config s ≡ false →
    is_empty t w packets s ≡ false → IsByNodes t w s
by_nodes t w packets s lawful turn fit new full =
    let has : HasRows t w = rows t w lawful turn in
    let each : (m : ℕ) → m < length t.loopbacks → node_at t (after t w s) m ≡ node_then t w s m =
    λ m below. goes t lawful w packets turn has s fit new full m below in
    record {
      each = each;
      part = λ m below. speaks t lawful w packets turn has s fit new full m below;
      all = map_below (node_at t (after t w s)) (node_then t w s) (length t.loopbacks) 0 (λ m low below. each m (omega (arith, below)))
          ∙ sym (with_all (length t.loopbacks) (node_then t w s) (acting t s) (node_at t w)
          (λ k below d. sym (ap (after_any (wiring_of t) (node_at t w k)) (not_acting t lawful w packets turn has s k d))));
      order = λ moves. order t lawful w packets turn has s fit new full moves;
    }

zeros : (n q : ℕ) → map (λ (l : ℕ). zero) (range_with_len q n) ≡ replicate n zero
zeros zero q = refl
zeros (suc n) q = ap (λ xs. zero ∷ xs) (zeros n (q + 1))

nones : (n q : ℕ) → (let o : List (Option Session) = map (λ l. None) (range_with_len q n) in o) ≡ replicate n None
nones zero q = refl
nones (suc n) q = ap (λ xs. None ∷ xs) (nones n (q + 1))

-- at the start each node is as it is made
pub begins : (t : Network) (m : ℕ) → node_at t (start t) m ≡ fresh_node (wiring_of t) m
begins t m =
    ap (λ ls. let o : Node =
    record { me = m; learned = ls; sessions = map (session_of t (start t).config (start t).sessions m) (links_of (wiring_of t)) } in
    o) (zeros (length t.links) 0)
    ∙ ap (λ ss. let o : Node = record { me = m; learned = replicate (length t.links) 0; sessions = ss } in o) (nones (length t.links) 0)
