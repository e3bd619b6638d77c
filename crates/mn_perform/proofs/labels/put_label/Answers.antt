use Rattle.std.proofs.Common.{◌≡◌, ◌++◌, ◌∷◌, [], ◌∙◌, ap, append_assoc, List, ℕ, OnOk, Result, Ok, Err, is_ok, if◌then◌else◌}
use Rattle.std.specs.Fmt.{decimal}
use Rattle.mn_output_laws.specs.Files.{node_name}
use Rattle.mn_output_laws.specs.Contents.{bind_text}
use Rattle.mn_perform.proofs.labels.put_label.Goals as goal

put : {T E : Type 0} (r : Result T E) (line name digits bind one two three : List ℕ) → one ≡ line ++ (name ++ 32 ∷ (digits ++ 32 ∷ [])) → two ≡ one ++ bind →
    three ≡ (if is_ok r then two ++ 10 ∷ [] else two) → OnOk r (three ≡ line ++ (name ++ 32 ∷ (digits ++ 32 ∷ (bind ++ 10 ∷ []))))
put (Err e) line name digits bind one two three a b c = tt
put (Ok x) line name digits bind one two three a b c =
    c ∙ ap (λ l. l ++ 10 ∷ []) (b ∙ ap (λ l. l ++ bind) a)
    ∙ append_assoc (line ++ (name ++ 32 ∷ (digits ++ 32 ∷ []))) bind (10 ∷ [])
    ∙ append_assoc line (name ++ 32 ∷ (digits ++ 32 ∷ [])) (bind ++ 10 ∷ [])
    ∙ ap (λ l. line ++ l) (append_assoc name (32 ∷ (digits ++ 32 ∷ [])) (bind ++ 10 ∷ [])
    ∙ ap (λ l. name ++ 32 ∷ l) (append_assoc digits (32 ∷ []) (bind ++ 10 ∷ [])))

pub returns : goal.returns
returns c =
    let digits : c.as_bytes.result.now ≡ decimal c.args.giving.label = c.as_bytes.ensures.value ∙ c.format.ensures.text in
    put c.extend_from_slice.result c.args.line.now.items (node_name c.args.topology.now c.args.node.0) (decimal c.args.giving.label)
    (bind_text c.args.topology.now c.args.giving.what)
    c.put_pieces.new.line.items c.put_bind.new.line.items c.extend_from_slice.new.self.items
    (c.in_ok-put_pieces.ensures.ok
    ∙ ap (λ l. c.args.line.now.items ++ (l ++ 32 ∷ (c.as_bytes.result.now ++ 32 ∷ []))) c.node_name.ensures
    ∙ ap (λ l. c.args.line.now.items ++ (node_name c.args.topology.now c.args.node.0 ++ 32 ∷ (l ++ 32 ∷ []))) digits)
    c.in_ok-put_bind.ensures c.extend_from_slice.ensures.items
