use Rattle.std.proofs.Common.{◌≡◌, ap, ◌∙◌, refl, [], ◌∷◌, ◌++◌, List, ℕ, None, string_bytes}
use Rattle.std.proofs.lemmas.List.{map-append}
use Rattle.std.specs.FinMap.{from_entries}
use Rattle.mn_edge.specs.Files.{with_file}
use Rattle.mn_edge.specs.Memory.{files_of}
use Rattle.mn_edge.specs.Place.{IsAt, bytes_at}
use Rattle.mn_edge.specs.Written.{pairs}
use Rattle.mn_edge.proofs.Entries.{files_of-set, from_entries-push}
use Rattle.mn_edge.proofs.named.NamedFiles.make_empty.Goals as goal

pub returns-in-Some-clause-ok : goal.returns-in-Some-clause-ok
returns-in-Some-clause-ok c =
    let at : IsAt (pairs c.self.inside.entries.items) c.args.name.now c.in-Some.i = rw c.deref.ensures.value at c.in-Some.ensures.found in
    files_of-set c.self.inside.entries.items c.in-Some.i c.index_mut-entry.result.now
    (c.index_mut-entry.result.now.0, c.clear.new.self) c.args.name.now [] at c.index_mut-entry.ensures.value refl c.clear.ensures.items
    ∙ ap (λ m. with_file m c.args.name.now []) c.self.view_is

pub returns-in_ok-push-clause-ok : goal.returns-in_ok-push-clause-ok
returns-in_ok-push-clause-ok c =
    let none : bytes_at (pairs c.self.inside.entries.items) c.args.name.now ≡ None = rw c.deref.ensures.value at c.in_default.ensures.missing in
    let pair : ◌≡◌ {A = List ℕ × List ℕ} (string_bytes c.in_ok-owned.owned, c.new.result.items) (c.args.name.now, []) =
    λ j. (c.in_ok-owned.ensures.ok j, c.new.ensures.items j) in
    ap files_of c.in_ok-push.ensures.items
    ∙ ap from_entries (map-append _ c.self.inside.entries.items _ ∙ ap (λ p. pairs c.self.inside.entries.items ++ p ∷ []) pair)
    ∙ from_entries-push (pairs c.self.inside.entries.items) c.args.name.now [] none
    ∙ ap (λ m. with_file m c.args.name.now []) c.self.view_is
