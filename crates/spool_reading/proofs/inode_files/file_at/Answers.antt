use Rattle.model.specs.Files.{largest_file}
use Rattle.std.proofs.Common.{◌≡◌, ◌≤◌, List, ℕ, Some, length, subst, sym, take, ◌∙◌}
use Rattle.std.proofs.lemmas.List.{take_all}
use Rattle.spool_reading.proofs.Passing.{named_file_is}
use Rattle.spool_reading.proofs.inode_files.file_at.Goals as goal

-- as many octets as a file has at most are the whole of it
whole : (limit : ℕ) (content octets : List ℕ) → octets ≡ take limit content → length content ≤ limit → content ≡ octets
whole limit content octets read few = sym (read ∙ take_all limit content few)

pub returns-clause-is : goal.returns-clause-is
returns-clause-is g c =
    let its = named_file_is _ c.in-Some.name.items (rw c.in-Some.is at c.in_ok-name.ensures) in
    let read = c.in_ok-content.ensures its.file its.there in
    let content = whole largest_file its.file.content c.in_ok-content.content.items read.0 read.1 in
    its.there ∙ (λ i. Some (record { name = its.named i; content = content i }))

pub returns-clause-short : goal.returns-clause-short
returns-clause-short g c =
    let its = named_file_is _ c.in-Some.name.items (rw c.in-Some.is at c.in_ok-name.ensures) in
    let read = c.in_ok-content.ensures its.file its.there in
    subst (λ (o : List ℕ). length o ≤ largest_file) (whole largest_file its.file.content c.in_ok-content.content.items read.0 read.1) read.1
