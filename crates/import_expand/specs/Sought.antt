-- The text that is looked for.
use Rattle.std.specs.Prelude.{ℕ, List}
use Rattle.import_expand.specs.declared.shelf_text.Sought.{Sought}

abbrev pub text_of : Sought → List ℕ
text_of sought = sought.bytes.now
