pub mod StateHomotopies
pub mod RaisedDegrees
