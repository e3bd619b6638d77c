-- What becomes of a frame, case by case.
use Rattle.std.proofs.Common.{◌≡◌, ℕ, ◌+◌, ◌-◌, ◌<◌, ◌≤◌, true, false, cond, List, [], ◌∷◌, ap, ◌∙◌, arith, Option, Some, nat_le}
use Rattle.std.specs.List.{slice_get}
use Rattle.std.proofs.lemmas.Bool.Decides.{nat_tests}
use Rattle.mn_drops.specs.declared.drops.Rule.TheVariants.{TtlExpired, NoEntry}
use Rattle.mn_stack.specs.declared.message.Entry.{Entry}
use Rattle.mn_stack.specs.Labelled.{Labelled}
use Rattle.mn_lfib.specs.declared.answer.Forwarded.{Forwarded}
use Rattle.mn_lfib.specs.declared.answer.Forwarded.TheVariants.{Drop, Next, Site}
use Rattle.mn_lfib.specs.declared.answer.Use.{Use}
use Rattle.mn_lfib.specs.Uses.{use_of}
use Rattle.mn_lfib.specs.Forwarding.{by_use, by_top, forwarded}
use Rattle.mn_lfib.specs.Hop.{carried_ttl, LeavesWith, IsOneHop}
use Rattle.mn_ipv4.specs.Header.{ttl_of}

same_top : (x top : Entry) → Some x ≡ Some top → x ≡ top
same_top x top h = cc

pub forwarded-top : (uses : List (ℕ × Use)) (frame : Labelled) (top : Entry) → slice_get frame.entries 0 ≡ Some top →
    forwarded uses frame ≡ by_top top uses frame
unfolding forwarded
forwarded-top uses frame top h = by_entries frame.entries h
  where
    by_entries : (entries : List Entry) → slice_get entries 0 ≡ Some top →
        (elim entries as (λ es. Forwarded × Labelled) [ [] ↦ (Drop NoEntry, frame) | first ∷ below ↦ by_top first uses frame ]) ≡ by_top top uses frame
    by_entries [] e = cc
    by_entries (first ∷ below) e = ap (λ x. by_top x uses frame) (same_top first top e)

pub expired : (uses : List (ℕ × Use)) (frame : Labelled) (top : Entry) → slice_get frame.entries 0 ≡ Some top → top.ttl ≤ 1 →
    forwarded uses frame ≡ (Drop TtlExpired, frame)
expired uses frame top h low =
    forwarded-top uses frame top h ∙ ap (λ b. cond b (Drop TtlExpired, frame) (by_use (use_of uses top.label) top.bottom (top.ttl - 1) frame)) yes
  where
    yes : nat_le top.ttl 1 ≡ true
    yes = grind (arith, nat_tests)

pub alive : (uses : List (ℕ × Use)) (frame : Labelled) (top : Entry) (used : Option Use) → slice_get frame.entries 0 ≡ Some top → 1 < top.ttl →
    use_of uses top.label ≡ used →
    forwarded uses frame ≡ by_use used top.bottom (top.ttl - 1) frame
alive uses frame top used h live is_used =
    let no : nat_le top.ttl 1 ≡ false = grind (arith, nat_tests) in
    forwarded-top uses frame top h
    ∙ ap (λ b. cond b (Drop TtlExpired, frame) (by_use (use_of uses top.label) top.bottom (top.ttl - 1) frame)) no
    ∙ ap (λ u. by_use u top.bottom (top.ttl - 1) frame) is_used

-- one hop less

pub carried-top : (frame : Labelled) (top : Entry) → slice_get frame.entries 0 ≡ Some top → carried_ttl frame ≡ top.ttl
carried-top frame top h = by_entries frame.entries h
  where
    by_entries : (entries : List Entry) → slice_get entries 0 ≡ Some top →
        (elim entries as (λ es. ℕ) [ [] ↦ ttl_of frame.packet | first ∷ below ↦ first.ttl ]) ≡ top.ttl
    by_entries [] e = cc
    by_entries (first ∷ below) e = ap (λ (x : Entry). x.ttl) (same_top first top e)

pub one-hop : (before : Labelled) (answer : Forwarded) (after : Labelled) (ttl : ℕ) → 0 < ttl → ttl + 1 ≡ carried_ttl before →
    LeavesWith ttl before answer after → IsOneHop before answer after
one-hop before (Drop rule) after ttl live less leaves = leaves
one-hop before (Next next_hop) after ttl live less leaves = (ttl, live, less, leaves)
one-hop before (Site site) after ttl live less leaves = (ttl, live, less, leaves)
