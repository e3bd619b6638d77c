-- One step more of one network's journal: what was sent and delivered stays, and what the step delivers is its newest copy.
use Rattle.std.proofs.Common.{ℕ, zero, suc, ◌≡◌, ◌+◌, ◌-◌, ◌<◌, ◌≤◌, Bool, true, false, List, [], ◌∷◌, ◌++◌, length, slice_get, Some, refl, arith}
use Rattle.std.proofs.Common.{sym, ◌∙◌, ap}
use Rattle.std.proofs.lemmas.List.{take-append-le, length-append, length_push, append-nil}
use Rattle.mn_base.specs.declared.numbers.SiteNo.{SiteNo}
use Rattle.mn_topo.specs.Network.{Network}
use Rattle.mn_topo.specs.declared.steps.JournalEntry.{JournalEntry}
use Rattle.mn_ledger.specs.declared.verdict.Verdict.TheVariants.{Delivered}
use Rattle.mn_ledger.specs.Ledger.{injects, packets_of}
use Rattle.mn_ledger.specs.Packets.{Packets}
use Rattle.mn_ledger.specs.OneMore.{added, with_packet}
use Rattle.mn_ledger.specs.Verdicts.{one_if, injections, verdict_on}
use Rattle.mn_ledger.proofs.More.{goes_on}
use Rattle.mn_ledger_laws.specs.Accounts.{Sending, IsSent, packets_at, is_flying}
use Rattle.mn_ledger_laws.specs.Deliveries.{Delivery, delivery_at, deliveries_of}
use Rattle.mn_ledger_laws.proofs.Adding.{adds_to_its_lists}
use Rattle.mn_ledger_laws.proofs.At.{packets_longer, packets_whole}
use Rattle.mn_ledger_laws.proofs.Copies.{as_many}
use Rattle.mn_ledger_laws.proofs.Fates.{ended_stays}

-- 1. Lists

pub get_front : {A : Type 0} (xs ys : List A) (i : ℕ) (x : A) → slice_get xs i ≡ Some x → slice_get (xs ++ ys) i ≡ Some x
get_front [] ys i x h = absurd (none h)
  where
    none : slice_get [] i ≡ Some x → ⊥
    none h = cc
get_front (y ∷ xs) ys zero x h = h
get_front (y ∷ xs) ys (suc i) x h = get_front xs ys i x h

pub get_end : {A : Type 0} (xs ys : List A) (x : A) → slice_get (xs ++ x ∷ ys) (length xs) ≡ Some x
get_end [] ys x = refl
get_end (y ∷ xs) ys x = get_end xs ys x

pub within : {A : Type 0} (xs : List A) (i : ℕ) (x : A) → slice_get xs i ≡ Some x → i < length xs
within [] i x h = absurd (none h)
  where
    none : slice_get [] i ≡ Some x → ⊥
    none h = cc
within (y ∷ xs) zero x h = omega arith
within (y ∷ xs) (suc i) x h = omega (arith, within xs i x h)

injections_end : (es : List JournalEntry) (e : JournalEntry) → injections (es ++ e ∷ []) ≡ injections es + one_if (injects e.step)
injections_end [] e = omega arith
injections_end (x ∷ es) e = omega (arith, injections_end es e)

-- with or without a packet more, the packets begin as they did
later_of : (f : Bool) (b : List ℕ) (ps : List (List ℕ)) → (later : List (List ℕ)) × (added f b ps ≡ ps ++ later)
later_of true b ps = (b ∷ [], refl)
later_of false b ps = ([], sym (append-nil ps))

-- 2. What stays

pub record Grows (t : Network) (es : List JournalEntry) (ps : List (List ℕ)) (fs : List JournalEntry) (qs : List (List ℕ)) : Type 0 where
  pub sent : (s : Sending) → IsSent es ps s → IsSent fs qs s
  pub stays : (s : Sending) (site : SiteNo) (ttl copy : ℕ) → IsSent es ps s → verdict_on (packets_of t es ps) s.packet ≡ Delivered ttl site copy
      → verdict_on (packets_of t fs qs) s.packet ≡ Delivered ttl site copy
  pub listed : (c : ℕ) (d : Delivery) → slice_get (deliveries_of t es ps) c ≡ Some d → slice_get (deliveries_of t fs qs) c ≡ Some d

pub as_it_was : (t : Network) (es : List JournalEntry) (ps : List (List ℕ)) → Grows t es ps es ps
as_it_was t es ps = record { sent = λ s h. h; stays = λ s site ttl copy h v. v; listed = λ c d h. h }

-- what a step delivered is listed, as the copy after those of before
pub record Lands (t : Network) (es : List JournalEntry) (ps : List (List ℕ)) (fs : List JournalEntry) (qs : List (List ℕ)) (b : List ℕ) : Type 0 where
  pub copy : (packets_of t fs qs).copies ≡ (packets_of t es ps).copies + 1
  pub delivery : Delivery
  pub listed : slice_get (deliveries_of t fs qs) ((packets_of t fs qs).copies - 1) ≡ Some delivery
  pub bytes : delivery.bytes ≡ b

pub record Moves (t : Network) (es : List JournalEntry) (ps : List (List ℕ)) (fs : List JournalEntry) (qs : List (List ℕ)) : Type 0 where
  pub grows : Grows t es ps fs qs
  pub each : length qs ≡ injections fs
  pub lands : (b : List ℕ) → (packets_of t fs qs).delivered ≡ Some b → Lands t es ps fs qs b

module _ (t : Network) (es : List JournalEntry) (ps : List (List ℕ)) (e : JournalEntry) (b : List ℕ) (each : length ps ≡ injections es) where
  abbrev fs : List JournalEntry
  fs = es ++ e ∷ []

  abbrev qs : List (List ℕ)
  qs = with_packet e.step b ps

  more : (later : List (List ℕ)) × (qs ≡ ps ++ later)
  more = later_of (injects e.step) b ps

  sent_on : (s : Sending) → IsSent es ps s → IsSent fs qs s
  sent_on s h = record {
    entry = h.entry;
    number = h.number;
    there = get_front es (e ∷ []) s.place h.entry h.there;
    injects = h.injects;
    earlier = ap injections (take-append-le s.place es (e ∷ []) (omega (arith, within es s.place h.entry h.there))) ∙ h.earlier;
    content = ap (λ xs. slice_get xs s.packet) more.1 ∙ get_front ps more.0 s.packet s.bytes h.content;
  }

  before : packets_at t fs qs (length es) ≡ packets_of t es ps
  before = ap (λ xs. packets_at t (es ++ e ∷ []) xs (length es)) more.1 ∙ packets_longer t es (e ∷ []) ps more.0 each

  now : packets_at t fs qs (length fs) ≡ packets_of t fs qs
  now = packets_whole t fs qs (length fs) (omega arith)

  longer : length es ≤ length fs
  longer = omega (arith, length-append es (e ∷ []))

  stays_so : (s : Sending) (site : SiteNo) (ttl copy : ℕ) → IsSent es ps s → verdict_on (packets_of t es ps) s.packet ≡ Delivered ttl site copy
      → verdict_on (packets_of t fs qs) s.packet ≡ Delivered ttl site copy
  stays_so s site ttl copy h v =
      let old : verdict_on (packets_at t fs qs (length es)) s.packet ≡ Delivered ttl site copy = ap (λ k. verdict_on k s.packet) before ∙ v in
      ap (λ k. verdict_on k s.packet) (sym now)
      ∙ (ended_stays t fs qs s (length es) (length fs) (sent_on s h) (within es s.place h.entry h.there) longer (ap is_flying old)).0
      ∙ old

  listed_on : deliveries_of t fs qs ≡ deliveries_of t es ps ++ delivery_at e.tick (packets_of t fs qs).delivered
  listed_on = (adds_to_its_lists t es ps e b each).deliveries
      ∙ ap (λ (k : Packets). deliveries_of t es ps ++ delivery_at e.tick k.delivered) (sym (goes_on t es ps e b each).packets)

  lands_so : (c : List ℕ) → (packets_of t fs qs).delivered ≡ Some c → Lands t es ps fs qs c
  lands_so c h =
      let list : deliveries_of t fs qs ≡ deliveries_of t es ps ++ record { tick = e.tick; bytes = c } ∷ [] =
      listed_on ∙ ap (λ o. deliveries_of t es ps ++ delivery_at e.tick o) h in
      let copies : (packets_of t fs qs).copies ≡ (packets_of t es ps).copies + 1 = omega (
        arith,
        as_many t fs qs,
        as_many t es ps,
        ap length list,
        length-append (deliveries_of t es ps) (record { tick = e.tick; bytes = c } ∷ []),
      ) in record {
        copy = copies;
        delivery = record { tick = e.tick; bytes = c };
        listed = ap (λ xs. slice_get xs ((packets_of t fs qs).copies - 1)) list
            ∙ ap (slice_get (deliveries_of t es ps ++ record { tick = e.tick; bytes = c } ∷ [])) (omega (arith, copies, as_many t es ps))
            ∙ get_end (deliveries_of t es ps) [] (record { tick = e.tick; bytes = c });
        bytes = refl;
      }

  many : (f : Bool) → length (added f b ps) ≡ length ps + one_if f
  many true = length_push ps b
  many false = omega arith

  pub moves : Moves t es ps fs qs
  moves = record {
    grows = record {
      sent = sent_on;
      stays = stays_so;
      listed = λ c d h. ap (λ xs. slice_get xs c) listed_on
          ∙ get_front (deliveries_of t es ps) (delivery_at e.tick (packets_of t (es ++ e ∷ []) (with_packet e.step b ps)).delivered) c d h;
    };
    each = omega (arith, many (injects e.step), each, injections_end es e);
    lands = lands_so;
  }
