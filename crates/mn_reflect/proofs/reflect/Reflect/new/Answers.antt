use Rattle.std.proofs.Common.{[], ◌≡◌, None, length, replicate, refl, ◌∙◌, ap}
use Rattle.std.proofs.lemmas.List.{length-map}
use Rattle.mn_mail.specs.Mail.{Mail}
use Rattle.mn_reflect_world_laws.proofs.Starting.{starts}
use Rattle.mn_reflect_telling.specs.Mentions.{numbers_of}
use Rattle.mn_reflect.proofs.Beginning.{are_nodes, starts_shaped}
use Rattle.mn_reflect.proofs.reflect.Reflect.new.Goals as goal

pub by_address-requires : goal.by_address-requires
by_address-requires c = are_nodes c.args.topology.now c.args.reflectors.now c.requires

pub invariant_of-result : goal.invariant_of-result
invariant_of-result c =
    let t = c.args.topology.now in
    let many : length c.nodes-nodes.result.now ≡ length t.loopbacks = ap length c.nodes-nodes.ensures ∙ length-map t.loopbacks _ in
    record {
      shape = starts_shaped (numbers_of c.args.reflectors.now) _ c.requires (record {
        works = refl;
        topology_is = refl;
        reflectors_are = c.in_ok-reflectors.ensures;
        edges = c.in_ok-edges.ensures;
        sessions = c.in_ok-sessions.ensures ∙ ap (λ n. replicate n (replicate n None)) many;
        heard = c.in_ok-heard.ensures ∙ ap (λ n. replicate n (replicate n [])) many;
        attachments = c.in_ok-attachments.ensures;
        statics = c.statics_of.ensures;
        nodes = ap (λ (m : Mail). m.nodes) c.in_ok-mail.ensures ∙ many;
        letters = ap (λ (m : Mail). m.letters) c.in_ok-mail.ensures;
        done = refl;
      });
      finds = c.in_ok-vrfs.ensures;
    }

pub returns : goal.returns
returns c =
    let t = c.args.topology.now in
    let many : length c.nodes-nodes.result.now ≡ length t.loopbacks = ap length c.nodes-nodes.ensures ∙ length-map t.loopbacks _ in
    record {
      run = record { topology_is = c.laws.ensures; are = c.requires; taken = tt; done = tt };
      stands = starts t (numbers_of c.args.reflectors.now) _ (record {
        works = refl;
        topology_is = refl;
        reflectors_are = c.in_ok-reflectors.ensures;
        edges = c.in_ok-edges.ensures;
        sessions = c.in_ok-sessions.ensures ∙ ap (λ n. replicate n (replicate n None)) many;
        heard = c.in_ok-heard.ensures ∙ ap (λ n. replicate n (replicate n [])) many;
        attachments = c.in_ok-attachments.ensures;
        statics = c.statics_of.ensures;
        nodes = ap (λ (m : Mail). m.nodes) c.in_ok-mail.ensures ∙ many;
        letters = ap (λ (m : Mail). m.letters) c.in_ok-mail.ensures;
        done = refl;
      });
    }
