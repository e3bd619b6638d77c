use Rattle.std.proofs.Common.{◌≡◌, ◌∷◌, ◌++◌, [], ◌∙◌, ◌≤◌, ◌<◌, Some, IfSome, refl, ap, sym, subst, arith, length, slice_set}
use Rattle.std.proofs.lemmas.Bool.{and_from}
use Rattle.std.proofs.lemmas.List.{get_or_read}
use Rattle.std.proofs.lemmas.Option.{same_Some}
use Rattle.mn_base.proofs.Bools.{less_is, at_most_is}
use Rattle.mn_base.specs.declared.numbers.SiteNo.{SiteNo}
use Rattle.mn_ledger.specs.Ledger.{packets_of}
use Rattle.mn_ledger.specs.Packets.{Packets}
use Rattle.mn_net_laws.specs.Now.{StandsFor}
use Rattle.mn_join_laws.specs.Pairing.{opposite, side, packets_in, Travel, no_travel}
use Rattle.mn_join.specs.Pairs.{SideNow, IsSide}
use Rattle.mn_join.specs.Moves.{TakesIn, Finds}
use Rattle.mn_join.proofs.Sides.{same_packets}
use Rattle.mn_join.proofs.HandedOver.{none_over, out_over, over_by}
use Rattle.mn_join.proofs.crossing.hand_over.Goals as goal

pub returns-in_default-clause-over : goal.returns-in_default-clause-over
returns-in_default-clause-over c = λ pairing both stand.
    let which = c.args.which in
    none_over pairing which c.args.here.now c.args.there.now c.args.crossings.now.items both c.args.exits.now.items stand
    (subst (Finds pairing which (side both which) (packets_in pairing both which)) c.in_default.is
    (c.landing.ensures.finds pairing which (side both which) stand.is_here))

pub returns-in-Ok-clause-over : goal.returns-in-Ok-clause-over
returns-in-Ok-clause-over c = λ pairing both stand.
    let which = c.args.which in
    let it = c.in-Some.ensures.finds pairing which (side both which) stand.is_here in
    let inputs = (side both which).inputs in
    let bytes = c.in-Some-delivered.bytes.now in
    let told : Some bytes ≡ (packets_of c.args.here.now.net.topology c.args.here.now.net.journal inputs).delivered =
    subst (λ (s : SideNow). StandsFor s.net inputs → Some bytes ≡ (packets_of s.net.topology s.net.journal inputs).delivered)
    c.here.view_is (c.in-Some-delivered.ensures.told inputs) stand.is_here.stands in
    let same = ap (λ (k : Packets). k.delivered) (same_packets pairing which c.args.here.now (side both which) stand.is_here) in
    out_over pairing which c.args.here.now c.args.there.now c.args.crossings.now.items both c.args.exits.now.items stand c.in-Some.found it
    bytes (told ∙ same) c.in_default-partner.is c.keep.new.exits.items
    (c.in-Ok.ensures.kept
    ∙ ap (λ t. c.args.exits.now.items ++ record { which = which; site = c.in-Some.found.site.0; tick = t; bytes = bytes } ∷ [])
    (c.tick-tick.ensures ∙ ap (λ (s : SideNow). s.net.tick) c.here.view_is))

pub take_in-requires : goal.take_in-requires
take_in-requires c =
    let most = length c.args.there.now.net.topology.sites in
    let site : c.in-Some-partner.site.0 < most =
    subst (λ o. IfSome o (λ (partner : SiteNo). partner.0 < most)) c.in-Some-partner.is (c.in-Some.ensures.below most c.requires.joints) in
    let here : c.in-Some.found.owner < length c.args.crossings.now.items = omega arith in
    let number : 1 ≤ c.index_mut.result.now.number = omega (
      arith,
      c.requires.numbers c.in-Some.found.owner c.index_mut.result.now here,
      ap (λ (packet : Travel). packet.number) c.index_mut.ensures.value,
    ) in
    record { fits = and_from _ _ (less_is c.in-Some-partner.site.0 most site) (at_most_is 1 c.index_mut.result.now.number number) }

pub returns-clause-over : goal.returns-clause-over
returns-clause-over c = λ pairing both stand.
    let which = c.args.which in
    let it = c.in-Some.ensures.finds pairing which (side both which) stand.is_here in
    let inputs = (side both which).inputs in
    let told : Some c.in-Some-delivered.bytes.now ≡ (packets_of c.args.here.now.net.topology c.args.here.now.net.journal inputs).delivered =
    subst (λ (s : SideNow). StandsFor s.net inputs → Some c.in-Some-delivered.bytes.now ≡ (packets_of s.net.topology s.net.journal inputs).delivered)
    c.here.view_is (c.in-Some-delivered.ensures.told inputs) stand.is_here.stands in
    let here : c.in-Some.found.owner < length c.args.crossings.now.items = omega arith in
    let same = ap (λ (k : Packets). k.delivered) (same_packets pairing which c.args.here.now (side both which) stand.is_here) in
    let bytes = same_Some c.in-Some-delivered.bytes.now it.landing.bytes (told ∙ same ∙ it.delivered) in
    over_by pairing which c.args.here.now c.args.there.now c.args.crossings.now.items both c.args.exits.now.items stand c.in-Some.found it
    c.in-Some-partner.site c.in-Some-partner.is c.take_in.new.there c.index_mut.result.now c.take_in.new.crossing
    (slice_set c.args.crossings.now.items c.in-Some.found.owner c.take_in.new.crossing)
    (get_or_read c.args.crossings.now.items c.in-Some.found.owner c.index_mut.result.now here c.index_mut.ensures.value no_travel) refl c.take_in.result
    (subst (λ b. TakesIn pairing (opposite which) (side both (opposite which)) c.in-Some-partner.site b c.in-Some.found.owner c.index_mut.result.now
    c.take_in.new.crossing c.take_in.new.there c.take_in.result) bytes
    (rw (← c.opposite.ensures) (c.take_in.ensures.takes pairing (side both c.opposite.result)
    (subst (λ w. IsSide pairing w c.args.there.now (side both w)) (sym c.opposite.ensures) stand.is_there))))
