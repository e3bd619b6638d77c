-- The words of other crates that several files here cite, passed on from one place. Declares nothing.
pub use Rattle.mn_frame_laws.specs.Given.{given}
pub use Rattle.mn_net_laws.specs.Done.{Answers, Leaves, Refuses, IsLonger, HasFailed, MayBeDone, IsDone, is_of_frames, TakesOne, TakesRoom}
pub use Rattle.mn_net_laws.specs.Labels.{LabelsMean}
pub use Rattle.mn_net_laws.specs.Now.{StandsFor, but_spare, HasRoom}
pub use Rattle.mn_vrf.specs.Vrf.{VrfState}
pub use Rattle.mn_ledger.specs.Prelude.{JournalEntry}
pub use Rattle.mn_timetable_laws.specs.Keys.{key_of, keys_in}
pub use Rattle.mn_transit.specs.Moving.{Moving}
pub use Rattle.mn_transport_laws.specs.Carried.{Carried}
pub use Rattle.mn_course_laws.specs.Coming.{is_due_before, earlier}
pub use Rattle.mn_course_laws.specs.Next.{IsNext}
pub use Rattle.mn_routing_laws.specs.Routed.{Routed}
pub use Rattle.mn_net_laws.specs.Coming.{first_key, learns_on, hears_on, tells_on, carries_on, as_coming, news_coming, coming_seen, pending_seen}
pub use Rattle.mn_net_laws.specs.Refusal.{of_vrf, is_so, has_nothing, of_static, has_all_targets, has_given_all, has_no_room, has_too_much}
pub use Rattle.mn_net_laws.specs.Rising.{AreRising}
pub use Rattle.mn_net_laws.specs.Tallies.{is_one}
