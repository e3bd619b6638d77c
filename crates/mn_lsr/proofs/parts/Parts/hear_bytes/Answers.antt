use Rattle.std.proofs.Common.{◌≡◌, ◌≢◌, map, subst, Option, Ok, Err}
use Rattle.std.specs.Prelude.{MatchResult}
use Rattle.mn_ldp_session.specs.declared.session.Session.{Session as Machine}
use Rattle.mn_lsr.specs.declared.refusal.LsrBad.TheVariants.{NoMemory}
use Rattle.mn_lsr.specs.Said.{pdu_of}
use Rattle.mn_lsr.specs.Hearing.{after_pdu}
use Rattle.mn_lsr.specs.Parts.{wiring_in, kept_of}
use Rattle.mn_lsr.proofs.HeardMessage.{machine-over, machine-some}
use Rattle.mn_lsr.proofs.parts.Parts.hear_bytes.Goals as goal

pub hear_ldp-requires-clause-open : goal.hear_ldp-requires-clause-open
hear_ldp-requires-clause-open c = machine-some c.args.self.now c.requires.stands c.args.link.0 c.requires.open

pub returns-clause-heard : goal.returns-clause-heard
returns-clause-heard c = λ session e.
    subst (λ (o : Option Machine). MatchResult c.hear_ldp.result
    (λ out. after_pdu (wiring_in c.args.self.now) c.args.tick c.args.link.0 (kept_of c.args.self.now) o c.args.bytes.now ≡ Ok (record {
      kept =
          kept_of c.hear_ldp.new.self;
      said = map pdu_of out.items;
    }))
    (λ bad. bad ≢ NoMemory → after_pdu (wiring_in c.args.self.now) c.args.tick c.args.link.0 (kept_of c.args.self.now) o c.args.bytes.now ≡ Err bad))
    (machine-over c.args.self.now c.requires.stands c.args.link.0 session e) c.hear_ldp.ensures.heard
