use Rattle.std.proofs.Common.{refl, ℕ, ◌++◌, map, length, sym, ◌∙◌, ap, subst, append-nil, List}
use Rattle.std.specs.List.{flat_map}
use Rattle.std.specs.Option.{option_to_list}
use Rattle.mn_bindings.specs.declared.event.LibEvent.{LibEvent}
use Rattle.std.proofs.Common.{Option}
use Rattle.mn_bindings.specs.declared.event.Tell.{Tell}
use Rattle.mn_bindings.specs.Tells.{tells}
use Rattle.mn_lsr.specs.Said.{pdu_of}
use Rattle.mn_lsr.specs.Telling.{said_by_tell}
use Rattle.mn_lsr.specs.Parts.{wiring_in, pdus_by, ends_after}
use Rattle.mn_labels.specs.Labels.{own_labels, offered, meaning_of}
use Rattle.mn_bindings.specs.Bindings.{after_events, usable}
use Rattle.mn_bindings.specs.News.{begun}
use Rattle.mn_bindings.specs.Known.{is_free, known_after}
use Rattle.mn_lfib.specs.Uses.{use_of}
use Rattle.mn_lsr.specs.Standing.{IsUseOf}
use Rattle.mn_lsr.specs.Parts.{HaveLabels}
use Rattle.mn_lsr.proofs.After.{no_tells}
use Rattle.mn_lsr.proofs.Tail.{known_none, none_begun}
use Rattle.mn_lsr.proofs.parts.Parts.tell.Goals as goal

pub returns-in-None : goal.returns-in-None
returns-in-None c =
    let p = c.args.self.now in
    record {
      said =
          sym (ap (λ (e : Option LibEvent). map pdu_of c.args.out.now.items ++ pdus_by (wiring_in p) p.me.0 (own_labels p.me.0 p.labels.labels) c.args.withdrawn
          p.sessions.items
          (flat_map (said_by_tell (wiring_in p) p.me.0) (tells p.lib.bindings (option_to_list e)))) c.in-None.is
          ∙ ap (λ (ts : List Tell). map pdu_of c.args.out.now.items ++ pdus_by (wiring_in p) p.me.0 (own_labels p.me.0 p.labels.labels) c.args.withdrawn
          p.sessions.items
          (flat_map (said_by_tell (wiring_in p) p.me.0) ts)) (no_tells p.lib.bindings)
          ∙ append-nil (map pdu_of c.args.out.now.items));
      counted =
          sym (ap (λ (e : Option LibEvent). ends_after p.sessions.items
          (flat_map (said_by_tell (wiring_in p) p.me.0) (tells p.lib.bindings (option_to_list e)))) c.in-None.is
          ∙ ap (λ (ts : List Tell). ends_after p.sessions.items (flat_map (said_by_tell (wiring_in p) p.me.0) ts)) (no_tells p.lib.bindings));
      known =
          known_none p.lib c.args.tick ∙ sym (ap (λ (e : Option LibEvent). known_after p.lib (option_to_list e) c.args.tick) c.in-None.is);
      labels =
          sym (ap (λ (e : Option LibEvent). offered (is_free p.lib c.args.tick) p.labels.labels
          (begun p.lib.bindings (after_events p.lib.bindings (option_to_list e)))) c.in-None.is
          ∙ ap (offered (is_free p.lib c.args.tick) p.labels.labels) (none_begun p.lib.bindings));
      have =
          subst (λ (e : Option LibEvent). HaveLabels p.me.0 (length p.loopbacks.items) (after_events p.lib.bindings (option_to_list e)) p.labels)
          (sym c.in-None.is)
          c.requires.follow.labels;
      table =
          subst (λ (e : Option LibEvent). (label : ℕ) → IsUseOf (usable (after_events p.lib.bindings (option_to_list e))) (meaning_of p.labels.labels label)
          (use_of p.lfib label)) (sym c.in-None.is) c.requires.follow.table;
      sites = λ label is. (refl, refl);
      others = refl;
    }
