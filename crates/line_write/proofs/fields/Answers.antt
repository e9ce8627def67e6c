-- `line_write::fields` meets its contract: field by field. Assumes nothing.
use Rattle.line_write.specs.Write.{fields_on, field_on}
use Rattle.line_write.proofs.fields.Goals as goal

pub returns : goal.returns
unfolding fields_on field_on
returns c =
    simp (
      c.put_field-8.ensures,
      c.put_field-7.ensures,
      c.put_field-6.ensures,
      c.put_field-5.ensures,
      c.put_field-4.ensures,
      c.put_field-3.ensures,
      c.put_field-2.ensures,
      c.put_field.ensures,
      c.from.ensures,
      c.from-2.ensures,
      c.from-3.ensures,
      c.from-4.ensures,
      c.from-5.ensures,
      c.from-6.ensures,
      c.from-7.ensures,
    )
