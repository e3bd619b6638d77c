-- What is kept keeps its shape.
use Rattle.std.proofs.Common.{ℕ, ◌<◌, List, ◌∙◌, sym, subst, Option}
use Rattle.mn_bgp_session.specs.declared.session.BgpSession.{BgpSession}
use Rattle.mn_offers.specs.Heard.{Heard}
use Rattle.mn_reflect_world_laws.specs.Now.{ReflectNow}
use Rattle.mn_reflect.specs.Shape.{IsShaped}
use Rattle.mn_reflect.specs.Doing.{with_end, with_row}
use Rattle.mn_reflect.proofs.Tables.{rows_stay, row_stays}

module _ (now : ReflectNow) (h : IsShaped now) where
  pub end_shape : (node peer : ℕ) (end : Option BgpSession) → IsShaped (with_end node peer end now)
  end_shape node peer end = record {
    edges = h.edges;
    sessions = rows_stay node peer end now.sessions ∙ h.sessions;
    ends = λ other below. row_stays node peer end now.sessions other (subst (λ n. other < n) (sym h.sessions) below) ∙ h.ends other below;
    heard = h.heard;
    peers = h.peers;
    attachments = h.attachments;
    nodes = h.nodes;
    reflectors = h.reflectors;
  }

  pub row_shape : (node peer : ℕ) (routes : List Heard) → IsShaped (with_row node peer routes now)
  row_shape node peer routes = record {
    edges = h.edges;
    sessions = h.sessions;
    ends = h.ends;
    heard = rows_stay node peer routes now.heard ∙ h.heard;
    peers = λ other below. row_stays node peer routes now.heard other (subst (λ n. other < n) (sym h.heard) below) ∙ h.peers other below;
    attachments = h.attachments;
    nodes = h.nodes;
    reflectors = h.reflectors;
  }
