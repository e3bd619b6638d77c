-- The id of a message on the wire: the low 32 bits of its number.
use Rattle.std.proofs.Common.{ℕ, ◌≡◌, ◌+◌, List, [], ◌∷◌, ◌++◌, length, arith, ◌∙◌, ap}
use Rattle.std.specs.Int.{byte_at, bytes_high_first}
use Rattle.std.specs.Prelude.{◌/◌, ◌%◌}
use Rattle.mn_ldp_wire.specs.declared.message.LdpBody.{LdpBody}
use Rattle.mn_ldp_wire.specs.declared.message.LdpId.{LdpId}
use Rattle.mn_ldp_wire.specs.Grammar.{written, written_message, framed, type_of, mandatory_tlvs, ldp_id}

four_bytes : (n : ℕ) → bytes_high_first 4 (n % 4294967296) ≡ bytes_high_first 4 n
four_bytes n = ap (λ a. a ∷ byte_at 2 m ∷ byte_at 1 m ∷ byte_at 0 m ∷ []) (fourth n) ∙ ap (λ a. byte_at 3 n ∷ a ∷ byte_at 1 m ∷ byte_at 0 m ∷ []) (third n)
    ∙ ap (λ a. byte_at 3 n ∷ byte_at 2 n ∷ a ∷ byte_at 0 m ∷ []) (second n) ∙ ap (λ a. byte_at 3 n ∷ byte_at 2 n ∷ byte_at 1 n ∷ a ∷ []) (first n)
  where
    m : ℕ
    m = n % 4294967296

    first : (n : ℕ) → n % 4294967296 % 256 ≡ n % 256
    first n = omega arith

    second : (n : ℕ) → n % 4294967296 / 256 % 256 ≡ n / 256 % 256
    second n = omega arith

    third : (n : ℕ) → n % 4294967296 / 65536 % 256 ≡ n / 65536 % 256
    third n = omega arith

    fourth : (n : ℕ) → n % 4294967296 / 16777216 % 256 ≡ n / 16777216 % 256
    fourth n = omega arith

pub written_low : (from : LdpId) (body : LdpBody) (n : ℕ) →
    written from (record { id = n % 4294967296; body = body }) ≡ written from (record { id = n; body = body })
unfolding written written_message
written_low from body n =
    ap (λ (id : List ℕ). bytes_high_first 2 1 ++ bytes_high_first 2 (6 + length (framed (type_of body) (id ++ mandatory_tlvs body))) ++ ldp_id from ++
    framed (type_of body) (id ++ mandatory_tlvs body)) (four_bytes n)
