use Rattle.std.proofs.Common.{◌≡◌, ◌+◌, ◌≤◌, ◌∙◌, ap, map, length, codes, Bor, List, ℕ, arith}
use Rattle.std.specs.Prelude.{decimal, nat_le}
use Rattle.std.specs.List.{list_all}
use Rattle.std.proofs.lemmas.Bool.{and_parts, leb-true}
use Rattle.model.specs.Names.{is_host_octet, is_run_of, parts}
use Rattle.text_article.specs.Stored.{missing_length}
use Rattle.text_article.proofs.StoredLaws.{front-size}
use Rattle.text_article.proofs.added_fields.added_length.Goals as goal

pub returns : goal.returns
returns c good =
    let host = c.args.host.now in
    let all = map (λ (f : Bor (List ℕ)). f.now) c.args.fields.now in
    let short : length host ≤ 64 =
    leb-true (length host) 64 (and_parts (nat_le (length host) 64) (list_all (is_run_of is_host_octet) (parts 46 host)) good).0 in
    let digits : length c.format-digits.result.now ≡ length (decimal c.args.serial) =
    ap (λ (l : List ℕ). length l) c.format-digits.ensures.text in
    let path_content : c.saturating_add.result ≡ length host + 13 = omega arith in
    let id_content : c.saturating_add-2.result ≡ length host + (3 + length (decimal c.args.serial)) =
    omega (arith, c.format-digits.ensures.short) in
    let path : c.missing_length-path.result ≡ missing_length all (codes "Path") (length host + 13) =
    c.missing_length-path.ensures.exact (omega arith) ∙ ap (missing_length all (codes "Path")) path_content in
    let date : c.missing_length-date.result ≡ missing_length all (codes "Date") 31 =
    c.missing_length-date.ensures.exact (omega arith) in
    let id : c.missing_length-id.result ≡ missing_length all (codes "Message-ID") (length host + (3 + length (decimal c.args.serial))) =
    c.missing_length-id.ensures.exact (omega (arith, c.format-digits.ensures.short))
    ∙ ap (missing_length all (codes "Message-ID")) id_content in
    let sum : c.saturating_add-4.result ≡ c.missing_length-path.result + c.missing_length-date.result + c.missing_length-id.result =
    omega (arith, c.format-digits.ensures.short) in
    sum
    ∙ front-size host c.args.serial all c.missing_length-path.result c.missing_length-date.result c.missing_length-id.result path date id
