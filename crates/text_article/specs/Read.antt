-- What a reading keeps of its text.
use Rattle.text_fields.specs.Header.{IsHeader}
use Rattle.text_article.specs.Parts.{AreParts}
use Rattle.text_article.specs.declared.text_reading.Reading.TheInside.{Inside}

-- where the header ends, and its parts or the first cause in its lines
pub record IsRead (r : Inside) : Type 0 where
  pub header : IsHeader r.text.now r.header
  pub parts : AreParts r.text.now r.parts
