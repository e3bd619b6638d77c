use Rattle.std.proofs.Common.{ℕ, ◌≡◌, ◌+◌, ◌<◌, ◌≤◌, ◌^◌, ◌++◌, ◌∷◌, [], arith, sym, ◌∙◌, ap}
use Rattle.mn_labels.specs.declared.meaning.Bind.TheVariants as bind
use Rattle.mn_labels.specs.Labels.{Labels, attached}
use Rattle.mn_lsr.proofs.Attaching.{few_attachments, counted_once_more, attached_then}
use Rattle.mn_lsr.proofs.parts.Parts.attach.Goals as goal

fewer : (a f : ℕ) → a + f ≤ 1048560 → a ≤ 1048560
fewer a f h = omega (arith, h)

pub overflow_add-count : goal.overflow_add-count
overflow_add-count c =
    let few : c.in-Ok.count + 1 < 2 ^ 32 =
    few_attachments c.args.site.0 c.in-Ok.count c.args.self.now.labels.labels.given (fewer _ _ c.in-Some.ensures.few)
    (c.in-Ok.ensures.count ∙ c.requires.stands.attached c.args.site.0) in
    omega (arith, few)

pub overflow_add-count-2 : goal.overflow_add-count-2
overflow_add-count-2 c =
    let few : c.in-Ok.count + 1 < 2 ^ 32 =
    few_attachments c.args.site.0 c.in-Ok.count c.args.self.now.labels.labels.given (fewer _ _ c.in-Some.ensures.few)
    (c.in-Ok.ensures.count ∙ c.requires.stands.attached c.args.site.0) in
    omega (arith, few)

pub returns-clause-stands : goal.returns-clause-stands
returns-clause-stands c =
    let p = c.args.self.now in
    let st = c.requires.stands in
    let site = c.args.site in
    let number : ℕ = c.in-Ok.count + 1 in
    let label : ℕ = c.in-Some.label in
    let kept : c.reserve.new.self.labels ≡ p.labels.labels = c.reserve.ensures.kept in
    let labels_is : c.attach.new.self.labels ≡ attached p.labels.labels (bind.Site site number) =
    c.in-Ok-attach.ensures.after ∙ ap (λ (l : Labels). attached l (bind.Site site number)) kept in
    let given_is : c.attach.new.self.labels.given ≡ p.labels.labels.given ++ record { label = label; what = bind.Site site number } ∷ [] =
    ap (λ (l : Labels). l.given) labels_is
    ∙ ap (λ n. p.labels.labels.given ++ record { label = n; what = bind.Site site number } ∷ []) (sym c.in-Some.ensures.label.0) in
    attached_then p st site label number c.attach.new.self c.set_site.new.self _ c.in-Some.ensures.label.0 labels_is
    (c.attach.ensures.me ∙ c.reserve.ensures.me) c.given-given.ensures.told c.in-Some.ensures.fresh
    c.in-Ok-set_site.ensures.set c.in-Ok-set_site.ensures.others
    (counted_once_more site label number c.from.result c.in-Ok.count p.labels.labels.given c.attach.new.self.labels.given c.attached_so_far.new.attached.items
    p.attached.items
    given_is c.from.ensures c.in-Ok.ensures.count c.in-Ok.ensures.same
    c.in-Ok.ensures.there st.attached)
