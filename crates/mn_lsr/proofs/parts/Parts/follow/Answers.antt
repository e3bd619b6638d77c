use Rattle.std.proofs.Common.{Result, Ok, Err, OnOk, ◌≢◌, ℕ, ◌≡◌, ◌+◌, ◌<◌, ◌^◌, List, [], ◌∷◌, length, map, arith, rules, refl, sym, ◌∙◌, ap, subst}
use Rattle.mn_bindings.specs.declared.event.LibEvent.{LibEvent}
use Rattle.std.specs.List.{All, flat_map, range_with_len}
use Rattle.mn_base.specs.declared.numbers.NodeNo.{NodeNo}
use Rattle.mn_labels.specs.Labels.{Labels, numbers, is_one_of, offered, meaning_of}
use Rattle.mn_lfib.specs.Uses.{use_of}
use Rattle.mn_bindings.specs.Bindings.{nodes, after_events, usable}
use Rattle.mn_bindings.specs.News.{AreBelow, fecs_in, begun}
use Rattle.mn_bindings.specs.Tells.{tells}
use Rattle.mn_bindings.specs.Known.{Known}
use Rattle.mn_bindings.proofs.Events.{nodes-after_events}
use Rattle.mn_bindings.proofs.Staying.{below}
use Rattle.mn_lsr.specs.declared.parts.Parts.{Parts}
use Rattle.mn_lsr.specs.Telling.{MayTell}
use Rattle.mn_lsr.specs.Said.{pdu_of}
use Rattle.mn_lsr.specs.Standing.{IsUseOf}
use Rattle.mn_lsr.specs.Parts.{free_of, SitesStay, HasTold}
use Rattle.mn_lsr.proofs.Followed.{IsOffered, tells-few, others_begin, labels_are, have, may_tell, none_of_sites, table_is, sites_are}
use Rattle.mn_lsr.proofs.parts.Parts.follow.Goals as goal
use Rattle.mn_lsr.proofs.parts.Parts.follow.Goals.{After-given-given}

abbrev nodes_of : List ℕ → List NodeNo
nodes_of [] = []
nodes_of (n ∷ ns) = record { 0 = n } ∷ nodes_of ns

numbers_of_nodes : (ns : List ℕ) → numbers (nodes_of ns) ≡ ns
numbers_of_nodes [] = refl
numbers_of_nodes (n ∷ ns) = ap (λ xs. n ∷ xs) (numbers_of_nodes ns)

nodes_by_numbers : (all : List NodeNo) → all ≡ nodes_of (numbers all)
nodes_by_numbers [] = refl
nodes_by_numbers (node ∷ all) = ap (λ xs. node ∷ xs) (nodes_by_numbers all)

-- all FECs that have a label which may be another's, as nodes
abbrev all_free : Parts → ℕ → List NodeNo
all_free p tick = nodes_of (flat_map (free_of p.lib p.labels.labels tick) (range_with_len 0 (length p.loopbacks.items)))

all_numbered : (p : Parts) (tick : ℕ) → numbers (all_free p tick) ≡ flat_map (free_of p.lib p.labels.labels tick) (range_with_len 0 (length p.loopbacks.items))
all_numbered p tick = numbers_of_nodes (flat_map (free_of p.lib p.labels.labels tick) (range_with_len 0 (length p.loopbacks.items)))

-- where no offer begins it is all the same which FECs were asked
shown : (p : Parts) (es : List LibEvent) (tick n : ℕ) (after : Labels) (free newly : List NodeNo) → n ≡ length p.loopbacks.items →
    ((begun p.lib.bindings (after_events p.lib.bindings es) ≡ [] → ⊥) → numbers free ≡ flat_map (free_of p.lib p.labels.labels tick) (range_with_len 0 n)) →
    map (λ (fec : NodeNo). fec.0) newly ≡ begun p.lib.bindings (after_events p.lib.bindings es) →
    after ≡ offered (is_one_of free) p.labels.labels (numbers newly) → after ≡ offered (is_one_of (all_free p tick)) p.labels.labels (numbers newly)
shown p es tick n after free [] same found news e = e
shown p es tick n after free (fec ∷ fecs) same found news e =
    let some : begun p.lib.bindings (after_events p.lib.bindings es) ≡ [] → ⊥ = λ none. not_empty (news ∙ none) in
    let all = nodes_by_numbers free ∙ ap nodes_of (found some ∙ ap (λ k. flat_map (free_of p.lib p.labels.labels tick) (range_with_len 0 k)) same) in
    e ∙ ap (λ (xs : List NodeNo). offered (is_one_of xs) p.labels.labels (numbers (fec ∷ fecs))) all
  where
    not_empty : {x : ℕ} {xs : List ℕ} → x ∷ xs ≡ [] → ⊥
    not_empty h = cc

renamed : (p : Parts) (after : Labels) (fecs given_up newly free : List NodeNo) → after ≡ offered (is_one_of given_up) p.labels.labels (numbers fecs) →
    fecs ≡ newly → given_up ≡ free → after ≡ offered (is_one_of free) p.labels.labels (numbers newly)
renamed p after fecs given_up newly free e one two =
    e ∙ ap (λ (xs : List NodeNo). offered (is_one_of xs) p.labels.labels (numbers fecs)) two
    ∙ ap (λ (xs : List NodeNo). offered (is_one_of free) p.labels.labels (numbers xs)) one

both_ok : {T E : Type 0} (r : Result T E) (A B C : Type 0) → (A → B → C) → OnOk r A → OnOk r B → OnOk r C
both_ok (Ok x) A B C f a b = f a b
both_ok (Err e) A B C f a b = a

-- the premise `all` of free_before and of use_new_ways: as many nodes as the bindings have
pub free_before-requires-clause-all : goal.free_before-requires-clause-all
free_before-requires-clause-all c = c.requires.follow.view_nodes ∙ sym c.requires.follow.lib_nodes

pub apply-requires-clause-few : goal.apply-requires-clause-few
apply-requires-clause-few c =
    let n : ℕ = length c.args.out.now.items in
    let small : n < 2 ^ 63 = search rules in
    let told = tells-few c.args.self.now.lib.bindings c.args.events.now (omega (arith, c.requires.follow.lib_nodes, c.requires.follow.few))
    c.requires.follow.short in
    (2 ^ 62 + n, c.requires.owed, omega (arith, small, told))

pub offer-requires : goal.offer-requires
offer-requires c = record {
  others = subst (All (λ (fec : NodeNo). (fec.0 < length c.args.self.now.labels.labels.fecs) × (fec.0 ≢ c.args.self.now.labels.me))) (sym c.deref.ensures.value)
      (others_begin c.args.self.now c.args.withdrawn c.args.events.now c.requires.follow c.in_ok-changed.changed.begun.items c.in_ok-changed.ensures.begun);
}

pub use_new_ways-requires-clause-all : goal.use_new_ways-requires-clause-all
use_new_ways-requires-clause-all c =
    c.nodes-nodes.ensures.value ∙ c.requires.follow.view_nodes
    ∙ sym (ap (λ (k : Known). nodes k.bindings) c.in_ok-changed.ensures.after ∙ nodes-after_events c.args.self.now.lib.bindings c.args.events.now
    ∙ c.requires.follow.lib_nodes)

pub use_new_ways-requires-clause-there : goal.use_new_ways-requires-clause-there
use_new_ways-requires-clause-there c =
    subst (λ n. AreBelow n (fecs_in c.args.events.now)) (c.requires.follow.lib_nodes ∙ sym (c.nodes-nodes.ensures.value ∙ c.requires.follow.view_nodes))
    (below c.args.self.now.lib.bindings c.args.events.now c.requires.follow.fit)

offered_is : (c : After-given-given) → IsOffered c.args.self.now c.args.events.now c.args.tick c.offer.new.self
offered_is c = record {
  free = all_free c.args.self.now c.args.tick;
  newly = c.in_ok-changed.changed.begun.items;
  free_are = all_numbered c.args.self.now c.args.tick;
  newly_are = c.in_ok-changed.ensures.begun;
  offered_is =
      shown c.args.self.now c.args.events.now c.args.tick c.args.self.now.view.nodes c.offer.new.self.labels c.in_ok-free.free.items
      c.in_ok-changed.changed.begun.items
      c.requires.follow.view_nodes c.in_ok-free.ensures c.in_ok-changed.ensures.begun
      (renamed c.args.self.now c.offer.new.self.labels c.deref.result.now c.deref-2.result.now c.in_ok-changed.changed.begun.items c.in_ok-free.free.items
      c.in_ok-offer.ensures.after c.deref.ensures.value c.deref-2.ensures.value);
  me_is = c.offer.ensures.me;
  told_is = c.given-given.ensures.told;
}

pub say_all-requires-clause-may : goal.say_all-requires-clause-may
say_all-requires-clause-may c =
    subst (MayTell (length c.deref-3.result.now) c.args.self.now.me.0 c.offer.new.self.labels c.args.withdrawn) (sym (c.deref-5.ensures.value
    ∙ c.in_ok-changed.ensures.tells))
    (subst (λ (xs : List ℕ). MayTell (length xs) c.args.self.now.me.0 c.offer.new.self.labels c.args.withdrawn
    (tells c.args.self.now.lib.bindings c.args.events.now))
    (sym c.deref-3.ensures.value)
    (may_tell c.args.self.now c.args.withdrawn c.args.events.now c.requires.follow c.args.tick c.offer.new.self
    (offered_is (goal.at.say_all-requires-clause-may c).After-given-given)))

pub use_new_ways-requires-clause-free : goal.use_new_ways-requires-clause-free
use_new_ways-requires-clause-free c =
    none_of_sites c.args.self.now c.args.withdrawn c.args.events.now c.requires.follow c.args.tick c.offer.new.self
    (offered_is (goal.at.use_new_ways-requires-clause-free c).After-given-given)

pub returns : goal.returns
returns c =
    let p : Parts = c.args.self.now in
    let q : Parts = record p { sessions = c.say_all.new.sessions; lib = c.apply.new.self; labels = c.offer.new.self; lfib = c.use_new_ways.new.lfib } in
    let es : List LibEvent = c.args.events.now in
    let newly = offered_is (goal.at.returns c).After-given-given in
    let many = c.nodes-nodes.ensures.value ∙ c.requires.follow.view_nodes in
    let bindings = ap (λ (k : Known). k.bindings) c.in_ok-changed.ensures.after in
    both_ok c.use_new_ways.result _ _
    (HasTold p q c.args.withdrawn c.args.tick es (map pdu_of c.args.out.now.items) (map pdu_of c.say_all.new.out.items))
    (λ (table : (label : ℕ) → IsUseOf (usable (after_events p.lib.bindings es)) (meaning_of q.labels.labels label) (use_of q.lfib label))
    (sites : SitesStay p q). record {
      said = search rules;
      counted = search rules;
      known = c.in_ok-changed.ensures.after;
      labels = labels_are p c.args.withdrawn es c.requires.follow c.args.tick c.offer.new.self newly;
      have = have p c.args.withdrawn es c.requires.follow c.args.tick c.offer.new.self newly;
      table = table;
      sites = sites;
      others = refl;
    })
    (both_ok c.use_new_ways.result _ _ _
    (table_is p c.args.withdrawn es c.requires.follow c.args.tick c.offer.new.self newly c.nodes-nodes.result many c.apply.new.self.bindings bindings
    c.use_new_ways.new.lfib)
    c.use_new_ways.ensures.ways c.use_new_ways.ensures.others)
    (both_ok c.use_new_ways.result _ _ _
    (sites_are p c.args.withdrawn es c.requires.follow c.args.tick c.offer.new.self newly c.nodes-nodes.result many c.apply.new.self.bindings bindings
    c.use_new_ways.new.lfib)
    c.use_new_ways.ensures.ways c.use_new_ways.ensures.others)
