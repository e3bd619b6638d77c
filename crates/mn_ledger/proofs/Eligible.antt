-- The choice among routes that take part is one of those that are held, the best of all where that one is resolved, and resolved where one is.
use Rattle.std.proofs.Common.{ℕ, ◌≡◌, Bool, true, false, List, refl, sym, ◌∙◌, ap, subst, Some, None}
use Rattle.std.specs.Prelude.{filter, ◌&&◌}
use Rattle.std.specs.List.{Contains, list_any}
use Rattle.mn_base.proofs.Bools.{no}
use Rattle.mn_topo.specs.Network.{Network}
use Rattle.mn_topo.specs.Lawful.{IsLawful}
use Rattle.mn_topo.specs.declared.steps.JournalEntry.{JournalEntry}
use Rattle.mn_topo.specs.Prefix.{contains}
use Rattle.mn_ledger.specs.World.{World}
use Rattle.mn_ledger.specs.Held.{HeldRoute, held, best, matching, unbeaten}
use Rattle.mn_ledger.specs.Ledger.{world_of}
use Rattle.mn_ledger.specs.Lawful.{IsLawfulJournal}
use Rattle.mn_ledger.specs.Best.{IsBest, NamesTheBest}
use Rattle.mn_ledger.specs.Eligible.{is_resolved, covers, only_if, some_resolves, eligible, IsFairChoice}
use Rattle.mn_ledger.proofs.Peers.{two_ways}
use Rattle.mn_ledger.proofs.OneKind.{one_passes}
use Rattle.mn_ledger.proofs.Turning.{loopbacks_apart}
use Rattle.mn_ledger.proofs.Members.{In, in_contained, contained_in, in_filter, filter_in, none_passes, passes_none}
use Rattle.mn_ledger.proofs.Held.{one_held, held_formed}
use Rattle.mn_ledger.proofs.Choice.{Keeps, keeps, names_one, from_unbeaten, in_first}

pub in_those : (b : Bool) (p : HeldRoute → Bool) (rs : List HeldRoute) (x : HeldRoute) → In (only_if b p rs) x → In rs x
in_those true p rs x i = (in_filter p rs x i).0
in_those false p rs x i = i

best_is : (rs : List HeldRoute) (a : ℕ) (x : HeldRoute) → best rs a ≡ Some x → IsBest rs a x
best_is rs a x e = from_unbeaten rs a x (in_first (unbeaten (matching a rs)) x e)

best_stays : (b : Bool) (p : HeldRoute → Bool) (rs : List HeldRoute) (a : ℕ) (x : HeldRoute) → best rs a ≡ Some x → p x ≡ true
    → NamesTheBest (only_if b p rs) a → best (only_if b p rs) a ≡ Some x
best_stays false p rs a x e h names = e
best_stays true p rs a x e h names =
    let top : IsBest rs a x = best_is rs a x e in
    names.one x (record {
      held = contained_in (filter p rs) x (filter_in p rs x (in_contained rs x top.held) h);
      matches = top.matches;
      unbeaten = λ other there. top.unbeaten other
          (contained_in rs other (in_filter p rs other (in_contained (filter p rs) other there)).0);
    })

resolved_there : (b : Bool) (p : HeldRoute → Bool) (rs : List HeldRoute) (x : HeldRoute) → b ≡ true → In (only_if b p rs) x → p x ≡ true
resolved_there true p rs x e i = (in_filter p rs x i).1
resolved_there false p rs x e i = absurd (no e)

none_there : (b : Bool) (p : HeldRoute → Bool) (rs : List HeldRoute) (a : ℕ) → (b ≡ true → list_any (covers a) (filter p rs) ≡ true)
    → NamesTheBest (only_if b p rs) a → best (only_if b p rs) a ≡ None → (x : HeldRoute) → Contains rs x → contains x.prefix a ≡ false
none_there false p rs a h names e x there = names.none e x there
none_there true p rs a h names e x there =
    absurd (no (sym (passes_none (covers a) (filter p rs) (λ y i. names.none e y (contained_in (filter p rs) y i))) ∙ h refl))

right : (a b : Bool) → (a && b) ≡ true → b ≡ true
right true b h = h
right false b h = absurd (no h)

pub fair_choice : (t : Network) (es : List JournalEntry) (ps : List (List ℕ)) → IsLawful t → IsLawfulJournal t es ps → (edge v address : ℕ)
    → IsFairChoice t (world_of t es) edge v address
fair_choice t es ps lawful journal edge v address =
    let w : World = world_of t es in
    let k : Keeps t w = keeps t es ps lawful journal in
    let rs : List HeldRoute = held t w.config w.peerings edge v in
    let p : HeldRoute → Bool = is_resolved t w edge in
    let some : Bool = some_resolves t w edge v address in
    let b : Bool = t.resolve && some in
    let names : NamesTheBest (only_if b p rs) address = names_one (only_if b p rs) address
    (λ a i. held_formed t w.config w.peerings edge v a k.forms k.told (in_those b p rs a i))
    (λ a c i j source prefix. one_held t w.config w.peerings edge v a c lawful (loopbacks_apart t lawful) k.statics k.told
    (in_those b p rs a i) (in_those b p rs c j) source prefix) in
    record {
      names = names;
      is_held = λ x there. contained_in rs x (in_those b p rs x (in_contained (only_if b p rs) x there));
      all = λ e. ap (λ (c : Bool). only_if (c && some) p rs) e;
      stays = λ x e h. best_stays b p rs address x e h names;
      found = λ e x other top there matches h. resolved_there b p rs x
          (ap (λ (c : Bool). c && some) e ∙ one_passes (covers address) (filter p rs) other (filter_in p rs other (in_contained rs other there) h) matches)
          (in_contained (only_if b p rs) x (best_is (only_if b p rs) address x top).held);
      none = λ e x there. none_there b p rs address (right t.resolve some) names e x there;
    }
