use Rattle.std.proofs.Common.{◌≡◌, length}
use Rattle.std.specs.Prelude.{◌||◌}
use Rattle.std.specs.List.{list_all}
use Rattle.model.specs.Names.{begins, is_blank}
use Rattle.model.specs.Article.{begins_field, header_lines}
use Rattle.text_fields.proofs.fields.are_fields_or_go_on.Given as goal

-- each line so far begins a field or continues one
abbrev pub invariant-loop-rest : goal.invariant-loop-rest
invariant-loop-rest l =
    list_all (λ line. begins is_blank line || begins_field line) (header_lines l.rest)
    ≡ list_all (λ line. begins is_blank line || begins_field line) (header_lines l.text)

abbrev pub decreases-loop-rest : goal.decreases-loop-rest
decreases-loop-rest l = length l.rest
