-- The folder Laws: values, labels and lines, for the theorems and the code to cite.
pub mod OnTheWay
