use Rattle.std.proofs.Common.{refl, ◌++◌, [], ◌∷◌, map, length, sym, ◌∙◌, ap, append-nil, List}
use Rattle.std.specs.List.{flat_map}
use Rattle.mn_bindings.specs.declared.event.Tell.{Tell}
use Rattle.mn_bindings.specs.Bindings.{after_events, usable}
use Rattle.mn_bindings.specs.Known.{is_free}
use Rattle.mn_labels.specs.Labels.{own_labels, offered, meaning_of}
use Rattle.mn_lfib.specs.Uses.{use_of}
use Rattle.mn_lsr.specs.Said.{pdu_of}
use Rattle.mn_lsr.specs.Telling.{said_by_tell}
use Rattle.mn_lsr.specs.Parts.{wiring_in, pdus_by, ends_after}
use Rattle.mn_lsr.proofs.Aside.{have_still, use_still}
use Rattle.mn_lsr.proofs.parts.Parts.follow_one.Goals as goal

pub is_aside-requires : goal.is_aside-requires
is_aside-requires c = c.requires.follow.fit.0

pub hear_aside-requires-clause-fit : goal.hear_aside-requires-clause-fit
hear_aside-requires-clause-fit c = c.requires.follow.fit.0

pub returns-then-is_aside : goal.returns-then-is_aside
returns-then-is_aside c =
    let p = c.args.self.now in
    record {
      said =
          sym (ap (λ (ts : List Tell). map pdu_of c.args.out.now.items ++ pdus_by (wiring_in p) p.me.0 (own_labels p.me.0 p.labels.labels) c.args.withdrawn
          p.sessions.items
          (flat_map (said_by_tell (wiring_in p) p.me.0) ts)) c.hear_aside.ensures.tells
          ∙ append-nil (map pdu_of c.args.out.now.items));
      counted =
          sym (ap (λ (ts : List Tell). ends_after p.sessions.items (flat_map (said_by_tell (wiring_in p) p.me.0) ts)) c.hear_aside.ensures.tells);
      known =
          c.hear_aside.ensures.after c.args.tick;
      labels =
          sym (ap (offered (is_free p.lib c.args.tick) p.labels.labels) c.hear_aside.ensures.begun);
      have =
          have_still p.me.0 (length p.loopbacks.items) p.lib.bindings (after_events p.lib.bindings (c.args.event ∷ [])) p.labels c.hear_aside.ensures.offers
          c.requires.follow.labels;
      table =
          λ label.
          use_still (usable p.lib.bindings) (usable (after_events p.lib.bindings (c.args.event ∷ []))) (meaning_of p.labels.labels label) (use_of p.lfib label)
          c.hear_aside.ensures.ways (c.requires.follow.table label);
      sites = λ label is. (refl, refl);
      others = refl;
    }
