use Rattle.std.proofs.Common.{ℕ, List, ◌∷◌, ◌++◌, [], ap, ◌∙◌, rules, append_assoc}
use Rattle.block_grammar.specs.PureHeader as plain
use Rattle.block_maker.specs.Generated.{generated_header}
use Rattle.block_maker.proofs.maker.put_together.Goals as goal

pub returns : goal.returns
returns c =
    let header = plain.pure_header_text (generated_header c.args.previous c.args.contents.now.root.0) in
    let count : List ℕ = c.args.contents.now.count ∷ [] in
    record {
      text = c.in_ok-extend-2.ensures.ok ∙ ap (λ (x : List ℕ). c.extend.new.self ++ x) c.as_slice.ensures
          ∙ ap (λ (x : List ℕ). x ++ c.args.contents.now.text) (c.in_ok-extend.ensures.ok ∙ ap (λ (x : List ℕ). x ++ count) c.in_ok-bytes.ensures) ∙ append_assoc header count c.args.contents.now.text;
      previous_length = search rules;
    }
