use Rattle.std.proofs.Common.{◌≡◌, ◌<◌, ◌∙◌, ap, refl, subst, sym, length, Some, None, []}
use Rattle.std.specs.Prelude.{slice_get, slice_index_or, option_map}
use Rattle.mn_bgp_session.specs.declared.session.BgpSession.{BgpSession}
use Rattle.mn_bgp_session.specs.Table as table
use Rattle.mn_routing_laws.specs.Routed.{Routed}
use Rattle.mn_routing_laws.specs.Doing.{with_end}
use Rattle.mn_routing_laws.proofs.Placed.{index_of}
use Rattle.mn_routing.proofs.Rows.{row_set, session_is, same_ok}
use Rattle.mn_routing.proofs.routes.Routes.hear_session.Goals as goal

pub returns-clause-heard : goal.returns-clause-heard
returns-clause-heard c =
    let i = c.self.inside in
    let within = subst (λ (x : Routed). c.args.edge.0 < length x.sessions) (sym c.self.view_is) c.requires.edge in
    let answered = c.requires.takes.1 in
    let same : c.in-Some.end ≡ answered.session =
    session_is _ i.sessions.items c.from.result c.from-2.result c.args.edge.0 c.args.peer.0 c.index_mut.result.now c.index_mut.ensures.value c.from.ensures
    c.from-2.ensures within
    c.index_mut-2.result.now c.in-Some.end answered.session c.index_mut-2.ensures.value c.in-Some.is
    (ap (λ (x : Routed). slice_get (slice_index_or x.sessions c.args.edge.0 []) c.args.peer.0) c.self.view_is ∙ answered.lives) in
    ap (λ rows. let r : Routed = record { edges = i.edges.items; sessions = rows; messages = i.messages.items } in r)
    (row_set _ i.sessions.items c.from.result c.from-2.result c.args.edge.0 c.args.peer.0 c.index_mut.result.now c.index_mut.ensures.value c.from.ensures
    c.from-2.ensures within _ (Some c.hear.new.self) refl)
    ∙ ap (with_end c.args.edge.0 c.args.peer.0 (Some c.hear.new.self)) c.self.view_is
    ∙ ap (λ end. with_end c.args.edge.0 c.args.peer.0 end c.args.self.now)
    (ap (λ s. Some s) (c.hear.ensures.after ∙ ap (λ s. table.after_message s c.args.message.now) same)
    ∙ ap (option_map (λ (session : BgpSession). table.after_message session c.args.message.now))
    (sym (index_of (slice_index_or c.args.self.now.sessions c.args.edge.0 []) c.args.peer.0 (Some answered.session) None answered.lives)))

pub returns-clause-answer : goal.returns-clause-answer
returns-clause-answer c =
    let i = c.self.inside in
    let within = subst (λ (x : Routed). c.args.edge.0 < length x.sessions) (sym c.self.view_is) c.requires.edge in
    λ answer answered.
    let same : c.in-Some.end ≡ answered.session =
    session_is _ i.sessions.items c.from.result c.from-2.result c.args.edge.0 c.args.peer.0 c.index_mut.result.now c.index_mut.ensures.value c.from.ensures
    c.from-2.ensures within
    c.index_mut-2.result.now c.in-Some.end answered.session c.index_mut-2.ensures.value c.in-Some.is
    (ap (λ (x : Routed). slice_get (slice_index_or x.sessions c.args.edge.0 []) c.args.peer.0) c.self.view_is ∙ answered.lives) in
    same_ok c.in-Ok.answer answer (c.in-Ok.ensures.answer ∙ ap (λ s. table.answer_in s c.args.message.now) same ∙ answered.takes)
