-- Which values a slot in the column of a field can hold (Columnar Format, "Physical Memory Layout").
use Rattle.arrow_types.specs.Field.{FieldShape}
use Rattle.arrow_layout.specs.Fits.{Fits}
use Rattle.arrow_layout.specs.Form.{node_form}
use Rattle.arrow_layout.specs.PlainValue.{PlainValue}
use Rattle.arrow_layout.specs.declared.form.Form.{Form}

-- the form of a field's column
abbrev pub field_form : FieldShape → Form
field_form field = node_form field.head.tag field.head.encoding

-- the value fits the field
abbrev pub FitsField : FieldShape → PlainValue → Type 0
FitsField field value = Fits (field_form field) field.children value
