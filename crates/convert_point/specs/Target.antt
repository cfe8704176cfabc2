-- The form that a text has, or into which it is converted.
use Rattle.terms.specs.Form.{Form}
use Rattle.utf8.specs.Scalar.{utf8}
use Rattle.utf16.specs.Scalar.{utf16}
use Rattle.code_points.specs.Points.{code_points}
use Rattle.convert_point.specs.declared.Target.{Target}
use Rattle.convert_point.specs.declared.Target.TheVariants.{Bytes, Units, Points}

abbrev pub form_of : Target → Form
form_of Bytes = utf8
form_of Units = utf16
form_of Points = code_points
