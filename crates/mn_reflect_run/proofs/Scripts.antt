-- A script that is read is lawful.
use Rattle.std.proofs.Common.{ℕ, ◌≡◌, ◌<◌, ◌⊎◌, inl, inr, Bool, true, false, List, [], ◌∷◌, ◌++◌, length, refl, sym, ◌∙◌, ap, subst}
use Rattle.std.specs.Prelude.{All, ◌==◌, ◌||◌}
use Rattle.std.specs.List.{list_any}
use Rattle.std.proofs.lemmas.List.Elements.{All-append, All-nil, All-cons}
use Rattle.mn_base.proofs.Bools.{or_ways, same_numbers}
use Rattle.mn_base.specs.declared.numbers.NodeNo.{NodeNo}
use Rattle.mn_topo.specs.Network.{Network}
use Rattle.mn_topo.specs.VrfTable.{is_edge}
use Rattle.mn_reflect_ledger_laws.specs.Picks.{is_reflector}
use Rattle.mn_reflect_telling.specs.Mentions.{numbers_of}
use Rattle.mn_reflect_run.specs.declared.command.ReflectCommand.{ReflectCommand}
use Rattle.mn_reflect_run.specs.declared.command.ReflectLine.{ReflectLine}
use Rattle.mn_reflect_run.specs.Language.{Script, with_reflector, with_command, command_fits}
use Rattle.mn_reflect_run.specs.Reading.{IsNew, IsLawfulScript}

-- 1. A reflector more

numbers_more : (nodes : List NodeNo) (node : NodeNo) → numbers_of (nodes ++ node ∷ []) ≡ numbers_of nodes ++ node.0 ∷ []
numbers_more [] node = refl
numbers_more (x ∷ nodes) node = ap (λ ns. x.0 ∷ ns) (numbers_more nodes node)

or_later : (a b : Bool) → b ≡ true → (a || b) ≡ true
or_later true b h = refl
or_later false b h = h

any_more : (p : ℕ → Bool) (xs : List ℕ) (x : ℕ) → list_any p (xs ++ x ∷ []) ≡ true → (list_any p xs ≡ true) ⊎ (p x ≡ true)
any_more p [] x h = elim (or_ways (p x) false h) [ inl e ↦ inr e | inr e ↦ inl e ]
any_more p (y ∷ xs) x h = elim (or_ways (p y) (list_any p (xs ++ x ∷ [])) h) [
  | inl e ↦ inl (ap (λ b. b || list_any p xs) e)
  | inr e ↦ elim (any_more p xs x e) [ inl f ↦ inl (or_later (p y) (list_any p xs) f) | inr f ↦ inr f ]
]

module _ (network : Network) (script : Script) (lawful : IsLawfulScript network script) where
  reflector_is : (node : NodeNo) (n : ℕ) → is_reflector (numbers_of (script.reflectors ++ node ∷ [])) n ≡ true →
      (is_reflector (numbers_of script.reflectors) n ≡ true) ⊎ (node.0 ≡ n)
  reflector_is node n h =
      elim (any_more (λ other. other == n) (numbers_of script.reflectors) node.0
      (sym (ap (λ ns. is_reflector ns n) (numbers_more script.reflectors node)) ∙ h)) [
        | inl e ↦ inl e
        | inr e ↦ inr (same_numbers node.0 n e)
      ]

  pub reflector_lawful : (new : Script) (node : NodeNo) → new ≡ with_reflector script node → IsNew network script.reflectors node → script.lines ≡ [] →
      IsLawfulScript network new
  reflector_lawful new node is fresh none = subst (IsLawfulScript network) (sym is) (record {
    reflectors = record {
      nodes = λ n h. elim (reflector_is node n h) [
        | inl e ↦ lawful.reflectors.nodes n e
        | inr e ↦ subst (λ k. k < length network.loopbacks) e fresh.there
      ];
      no_edges = λ n h. elim (reflector_is node n h) [
        | inl e ↦ lawful.reflectors.no_edges n e
        | inr e ↦ subst (λ k. is_edge network.vrfs k ≡ false) e fresh.no_edge
      ];
    };
    fit = subst (All (λ (line : ReflectLine). command_fits network (numbers_of (script.reflectors ++ node ∷ [])) line.command ≡ true)) (sym none)
        (All-nil (λ (line : ReflectLine). command_fits network (numbers_of (script.reflectors ++ node ∷ [])) line.command ≡ true));
  })

  -- 2. A line more

  pub command_lawful : (new : Script) (number : ℕ) (asked : ReflectCommand) → new ≡ with_command script number asked →
      command_fits network (numbers_of script.reflectors) asked ≡ true → IsLawfulScript network new
  command_lawful new number asked is fits = subst (IsLawfulScript network) (sym is) (record {
    reflectors = lawful.reflectors;
    fit =
        let line : ReflectLine = record { number = number; command = asked } in
        All-append (λ (line : ReflectLine). command_fits network (numbers_of script.reflectors) line.command ≡ true) script.lines (line ∷ []) lawful.fit
        (All-cons (λ (line : ReflectLine). command_fits network (numbers_of script.reflectors) line.command ≡ true) line [] fits
        (All-nil (λ (line : ReflectLine). command_fits network (numbers_of script.reflectors) line.command ≡ true)));
  })
