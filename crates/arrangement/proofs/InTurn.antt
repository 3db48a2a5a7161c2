-- Document 02, A11: "All indexes in turn give the list that the large slice would hold", of any figures whose count is answered.
use Prim.Native.Nat.{ℕ}
use mathlib.Core.List.{List}
use mathlib.Core.Path.{◌≡◌, sym, ◌∙◌}
use Rattle.figures.specs.declared.site.Site.{Site}
use Rattle.figures.specs.declared.roof.Roof.{Roof}
use Rattle.roof_arrangements.specs.InTurn.{FiguresInTurn}
use Rattle.roof_arrangements.proofs.InTurn.{in_turn, accepted_in_turn}
use Rattle.standard.specs.Answers.{value, national_for, make_answer, segment_count_answer, segment_answer}
use Rattle.standard.specs.Arrangements.{stretch}
use Rattle.standard.proofs.Answered.{after_rules_lem, rules_pass}

module _ (store : List ℕ) (site : Site) (roof : Roof) (code n : ℕ) where
  pub all_in_turn :
      segment_count_answer store site roof code ≡ value n
      → FiguresInTurn (make_answer store site roof code) (segment_answer store site roof code) (stretch (national_for store site) site roof code) n
  unfolding segment_count_answer make_answer segment_answer
  all_in_turn h =
      let a = after_rules_lem store site roof _ n h in
      let t = accepted_in_turn (national_for store site) site roof code n a.1 in
      in_turn _ _ _ n
      (λ room fits. sym (rules_pass store site roof _ a.0) ∙ t.maker room fits)
      (λ i room lt fits. sym (rules_pass store site roof _ a.0) ∙ t.each i room lt fits)
      (λ i room past. sym (rules_pass store site roof _ a.0) ∙ t.past i room past)
