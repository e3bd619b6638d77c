-- Where nothing comes next, all that a line lets arrive has arrived.
use Rattle.std.proofs.Common.{ℕ, ◌≡◌, ◌+◌, ◌^◌, ◌≤◌, Bool, true, false, not, List, refl, arith, sym, ◌∙◌, subst, Option, Some, None}
use Rattle.std.specs.Prelude.{nat_le, ◌&&◌}
use Rattle.std.specs.List.{Contains}
use Rattle.mn_base.proofs.Bools.{clash, at_most_is}
use Rattle.mn_topo.specs.Lawful.{IsLawful}
use Rattle.mn_topo.specs.Network.{Network}
use Rattle.mn_ledger.specs.Items.{Channel, Notices, Messages, Routes, Frames, Item, flight_of}
use Rattle.mn_ledger.specs.Bounds.{IsBounded}
use Rattle.mn_ledger.proofs.Saying.{bounded}
use Rattle.mn_ledger_laws.specs.Flight.{is_frame}
use Rattle.mn_ledger_laws.proofs.Counted.{flies_as_counted}
use Rattle.mn_course_laws.specs.declared.coming.Kind.{Kind}
use Rattle.mn_course_laws.specs.declared.coming.Kind.TheVariants.{Notice, Message, Frame}
use Rattle.mn_course_laws.specs.declared.coming.Coming.{Coming}
use Rattle.mn_course_laws.specs.declared.coming.Arrivals.{Arrivals}
use Rattle.mn_course_laws.specs.declared.coming.Arrivals.TheVariants.{DueBy, News, AllFrames}
use Rattle.mn_course_laws.specs.declared.coming.Ending.TheVariants as ending
use Rattle.mn_course_laws.specs.Coming.{kind_of, is_kind, is_due, coming, or_else, ever}
use Rattle.mn_course_laws.specs.Course.{Past, inputs_of, next_now, deliver, all}
use Rattle.mn_course_laws.specs.Lawful.{IsLawfulPast}
use Rattle.mn_course_laws.specs.Next.{IsNext}
use Rattle.mn_course_laws.specs.Paced.{HaveArrived}
use Rattle.mn_course_laws.proofs.Going.{deliver_goes}
use Rattle.mn_course_laws.proofs.Left.{none_left_of_all}
use Rattle.mn_course_laws.proofs.Made.{due_soon}
use Rattle.mn_course_laws.proofs.Nexts.{neither_comes, what_is_next}
use Rattle.mn_course_laws.proofs.Pace.{deliver_paced}

-- 1. None of some

pub none_else : (a b : Option Coming) → or_else a b ≡ None → (a ≡ None) × (b ≡ None)
none_else None b h = (refl, h)
none_else (Some x) b h = absurd (cc)

-- 2. By kinds

not_due : (on : Channel) (b : Bool) → (is_kind Notice (kind_of on) && b) ≡ false → (is_kind Message (kind_of on) && b) ≡ false
    → (is_kind Frame (kind_of on) && b) ≡ false → b ≡ false
not_due (Notices l n) b h g f = h
not_due (Messages l n) b h g f = g
not_due (Routes x y) b h g f = g
not_due (Frames l d) b h g f = f

only_frames : (on : Channel) (b : Bool) → b ≡ true → (is_kind Notice (kind_of on) && b) ≡ false → (is_kind Message (kind_of on) && b) ≡ false
    → not (is_frame on) ≡ false
only_frames (Notices l n) b e h g = absurd (clash (sym e ∙ h))
only_frames (Messages l n) b e h g = absurd (clash (sym e ∙ g))
only_frames (Routes x y) b e h g = absurd (clash (sym e ∙ g))
only_frames (Frames l d) b e h g = refl

no_frames : (on : Channel) (b : Bool) → b ≡ true → (is_kind Frame (kind_of on) && b) ≡ false → is_frame on ≡ false
no_frames (Notices l n) b e h = refl
no_frames (Messages l n) b e h = refl
no_frames (Routes x y) b e h = refl
no_frames (Frames l d) b e h = absurd (clash (sym e ∙ h))

module _ (t : Network) (lawful : IsLawful t) (capture : List (List ℕ)) where
  abbrev items_of : Past → List Item
  items_of past = (flight_of t past.entries (inputs_of capture past.entries)).items

  pub none_due : (past : Past) → IsLawfulPast t capture past → (kind : Kind) (limit : ℕ)
      → coming t past.entries (inputs_of capture past.entries) kind limit ≡ None
      → (x : Item) → Contains (items_of past) x → is_due kind limit x ≡ false
  none_due past h kind limit e =
      subst (IsNext t past.entries (inputs_of capture past.entries) kind limit) e
      (what_is_next t lawful past.entries (inputs_of capture past.entries) h.journal kind limit)

  -- all is due before the clock reaches twice its present tick
  pub due_ever : (past : Past) → IsLawfulPast t capture past → past.clock ≤ 2 ^ 61 + 4000001000 → (x : Item) → Contains (items_of past) x
      → nat_le x.due ever ≡ true
  due_ever past h early x c =
      let soon = due_soon t lawful past.entries (inputs_of capture past.entries) h.journal x c
      ((flies_as_counted t past.entries (inputs_of capture past.entries) lawful h.journal).channels x c) in
      at_most_is x.due ever (omega (arith, soon, h.forward.later, early))

  pub emptied : (arrivals : Arrivals) (past : Past) → IsLawfulPast t capture past → past.clock ≤ 2 ^ 61 + 4000001000 → next_now t capture arrivals past ≡ None
      → HaveArrived arrivals (items_of past)
  emptied (DueBy end) past h early e x c =
      let one = neither_comes (coming t past.entries (inputs_of capture past.entries) Notice end) _ e in
      let two = neither_comes (coming t past.entries (inputs_of capture past.entries) Message end) _ one.1 in
      not_due x.on (nat_le x.due end) (none_due past h Notice end one.0 x c) (none_due past h Message end two.0 x c) (none_due past h Frame end two.1 x c)
  emptied News past h early e x c =
      let one = none_else (coming t past.entries (inputs_of capture past.entries) Notice ever) _ e in
      only_frames x.on (nat_le x.due ever) (due_ever past h early x c) (none_due past h Notice ever one.0 x c) (none_due past h Message ever one.1 x c)
  emptied AllFrames past h early e x c = no_frames x.on (nat_le x.due ever) (due_ever past h early x c) (none_due past h Frame ever e x c)

  pub all_have_arrived : (arrivals : Arrivals) (past : Past) → IsLawfulPast t capture past → past.clock ≤ 2 ^ 61
      → (deliver t capture arrivals all past).ending ≡ ending.All → HaveArrived arrivals (items_of (deliver t capture arrivals all past).past)
  all_have_arrived arrivals past h early over =
      let last : Past = (deliver t capture arrivals all past).past in
      let good : IsLawfulPast t capture last = deliver_goes t lawful capture arrivals all past h in
      let pace = deliver_paced t lawful capture arrivals all past h in
      let room : IsBounded t past.entries = bounded t past.entries (inputs_of capture past.entries) lawful h.journal in
      let full : IsBounded t last.entries = bounded t last.entries (inputs_of capture last.entries) lawful good.journal in
      emptied arrivals last good (omega (arith, pace.within, full.steps, early)) (none_left_of_all t capture arrivals past room.steps over)
